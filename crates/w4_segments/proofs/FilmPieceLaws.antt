-- A film that is handed out a piece at a time: a round more, a piece less, and what is left.
use Rattle.std.proofs.Common.{◌≡◌, ℕ, ◌+◌, ◌-◌, ◌<◌, ◌≤◌, List, [], length, get_or, Option, Some, inl, inr}
use Rattle.std.proofs.Common.{sym, ap, ◌∙◌, arith}
use Rattle.std.specs.List.{All, slice_get}
use Rattle.std.proofs.lemmas.Option.{slice_get_cases}
use Rattle.w4_defs.specs.AllThere.{joined}
use Rattle.w4_defs.specs.Film.{run_images}
use Rattle.w4_defs.specs.KeptList.{place_at}
use Rattle.w4_editor.specs.Editor.{Editing, editing_setup}
use Rattle.w4_editor.specs.Playing.{KeepsRecording}
use Rattle.w4_segments.specs.declared.worker.Worker.{Worker}
use Rattle.w4_segments.specs.FilmPieces.{CanGoOn, images_between, images_by, AreOfRunBelow, ArePieces}
use Rattle.w4_segments.specs.FilmPieces.{piece_begin}
use Rattle.w4_segments.specs.Filming.{film_images}
use Rattle.w4_segments.specs.Rounds.{entries_of}
use Rattle.w4_segments.specs.Worker.{EachDid, HasCartTypes}
use Rattle.w4_segments.specs.Pieces.{HasFilmed, worker_images}
use Rattle.w4_segments.proofs.PieceLaws.{cut_inside, cut_rises, cut_there, cut_to_end, pieces_filmed}
use Rattle.w4_segments.proofs.PieceLaws.{span_both, span_none, types_filmed}

module _ (e : Editing) (worker_list : List Worker) (first end first_entry next filmed : ℕ)
    (is : CanGoOn worker_list first end first_entry next filmed e) where
  abbrev cut : ℕ → ℕ
  cut i = piece_begin (entries_of e) first end i

  -- all pieces that were made are handed out, and each worker has made one more
  pub round_more : (dealt new : List Worker) → filmed ≡ next → cut next < end → length (entries_of e) ≤ 1024
      → ArePieces e first end filmed worker_list dealt
      → EachDid (HasFilmed (editing_setup e) e.disk e.session.current.inputs) dealt new
      → CanGoOn new first end first_entry next (filmed + length new) e × (next < filmed + length new)
  round_more dealt new same before most pieces did =
      let as_dealt = did.many in
      let as_listed = pieces.many in
      let some = is.some in
      let few = is.few in
      let there = (cut_inside (entries_of e) first end next before).0 in (
        record {
          some = omega (arith, as_dealt, as_listed, some);
          few = omega (arith, as_dealt, as_listed, few);
          order = is.order;
          within = is.within;
          states = is.states;
          types = types_filmed e first end filmed worker_list dealt new pieces did;
          begun = is.begun;
          passed = omega (arith, same);
          worker_count = omega (arith, same);
          bound = omega (arith, same, there, most, as_dealt, as_listed, few);
          pieces = λ k d lt.
              let low : k < length new = omega (arith, lt, same) in
              let at : length new - (filmed + length new - next) + k ≡ k = omega (arith, same) in
              let on : filmed + k ≡ next + k = omega (arith, same) in
              ap (λ i. images_between e (cut i) (cut (i + 1))) (sym on)
              ∙ pieces_filmed e first end filmed worker_list dealt new pieces did k d low
              ∙ ap (λ i. Some (worker_images (get_or new i d))) (sym at);
        },
        omega (arith, same, as_dealt, as_listed, some),
      )

  -- the next piece, where there is one
  pub piece_next : next < filmed → (d : Worker)
      → images_between e (cut next) (cut (next + 1))
      ≡ Some (worker_images (get_or worker_list (length worker_list - (filmed - next)) d))
  piece_next some d =
      let at : length worker_list - (filmed - next) ≡ length worker_list - (filmed - next)
      + 0 = omega arith in
      let on : next + 0 ≡ next = omega arith in
      ap (λ i. images_between e (cut i) (cut (i + 1))) (sym on)
      ∙ is.pieces 0 d (omega (arith, some))
      ∙ ap (λ i. Some (worker_images (get_or worker_list i d))) (sym at)

  pub piece_handed_out : next < filmed → (worker_index : ℕ) → worker_index
      ≡ length worker_list - (filmed - next)
      → images_between e (cut next) (cut (next + 1)) ≡ Some (images_by (slice_get worker_list worker_index))
  piece_handed_out some worker_index worker_is =
      let few = is.some in
      elim (slice_get_cases worker_list worker_index).1 [
        | inl (x, _, there, same) ↦
            piece_next some x
            ∙ ap (λ i. Some (worker_images (get_or worker_list i x))) (sym worker_is)
            ∙ ap (λ (w : Worker). Some (worker_images w)) same
            ∙ ap (λ (w : Option Worker). Some (images_by w)) (sym there)
        | inr (past, _) ↦ absurd (omega (arith, past, worker_is, some, few))
      ]

  -- the film without it
  pub piece_less : next < filmed → CanGoOn worker_list first end first_entry (next + 1) filmed e
  piece_less some =
      let begun = is.begun in
      let worker_count = is.worker_count in
      record {
        some = is.some;
        few = is.few;
        order = is.order;
        within = is.within;
        states = is.states;
        types = is.types;
        begun = omega (arith, begun);
        passed = omega (arith, some);
        worker_count = omega (arith, worker_count);
        bound = is.bound;
        pieces = λ k d lt.
            let at : length worker_list - (filmed - (next + 1)) + k ≡ length worker_list - (filmed - next)
            + (k + 1) =
            omega (arith, lt, some, worker_count) in
            let on : next + (k + 1) ≡ next + 1 + k = omega arith in
            ap (λ i. images_between e (cut i) (cut (i + 1))) (sym on)
            ∙ is.pieces (k + 1) d (omega (arith, lt))
            ∙ ap (λ i. Some (worker_images (get_or worker_list i d))) (sym at);
      }

-- what is left begins with the next piece
module _ (e : Editing) (first end : ℕ)
    (rising : (i : ℕ) → i + 1 < length (entries_of e)
    → place_at (entries_of e) i < place_at (entries_of e) (i + 1)) where
  abbrev cut_at : ℕ → ℕ
  cut_at i = piece_begin (entries_of e) first end i

  pub left_begins : (next : ℕ) → images_between e (cut_at next) end
      ≡ joined (images_between e (cut_at next) (cut_at (next + 1))) (images_between e (cut_at (next + 1)) end)
  left_begins next =
      span_both e first end (cut_at next) (cut_at (next + 1)) end
      (cut_rises (entries_of e) first end rising next)
      (cut_to_end (entries_of e) first end (next + 1))

  pub nothing_left : (next : ℕ) → end ≤ cut_at next → images_between e (cut_at next) end ≡ Some []
  nothing_left next past =
      let most = cut_to_end (entries_of e) first end next in
      span_none e first end (cut_at next) end (omega (arith, past, most))

-- a film that begins: nothing is made
pub film_begun : (e : Editing) (worker_list : List Worker) (first end first_entry : ℕ) → 0
    < length worker_list → length worker_list ≤ 16
    → first ≤ end → end ≤ length e.session.current.inputs + 1 → AreOfRunBelow end e
    → All (HasCartTypes e.cart) worker_list → first_entry ≤ 1024
    → CanGoOn worker_list first end first_entry first_entry first_entry e
film_begun e worker_list first end first_entry some few order within states types low = record {
  some = some;
  few = few;
  order = order;
  within = within;
  states = states;
  types = types;
  begun = omega arith;
  passed = omega arith;
  worker_count = omega arith;
  bound = omega (arith, low);
  pieces = λ k d lt. absurd (omega (arith, lt));
}

-- what a showing keeps
pub keeps_cart : (old new : Editing) → KeepsRecording old new → new.cart ≡ old.cart
keeps_cart old new keeps = ap (λ (e : Editing). e.cart) keeps.same

pub keeps_count : (old new : Editing) → KeepsRecording old new
    → length new.session.current.inputs ≡ length old.session.current.inputs
keeps_count old new keeps = ap (λ inputs. length inputs) keeps.inputs

-- the piece of the last entry up to the film's first place begins there, so all its images are left
pub images_begun : (old now : Editing) (first a b : ℕ) → KeepsRecording old now
    → first < length (entries_of old) → place_at (entries_of old) first ≤ a → a ≤ b
    → images_between now (piece_begin (entries_of now) a (b + 1) first) (b + 1) ≡ film_images old a b
images_begun old now first a b keeps there low order =
    let many = keeps.places.many in
    let place = keeps.places.places first in
    let cut = cut_there (entries_of now) a (b + 1) first (omega (arith, there, many)) in
    let begins : piece_begin (entries_of now) a (b + 1) first ≡ a = omega (arith, cut, place, low, order) in
    ap (λ from. images_between now from (b + 1)) begins
    ∙ ap
    (λ (e : Editing). run_images (editing_setup e) e.disk now.session.current.inputs a (b + 1 - a))
    keeps.same
    ∙ ap (λ inputs. run_images (editing_setup old) old.disk inputs a (b + 1 - a)) keeps.inputs
