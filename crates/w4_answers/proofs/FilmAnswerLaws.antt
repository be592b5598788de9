-- Films: what an order for one writes, and the images that its pieces have.
use Rattle.std.proofs.Common.{◌≡◌, ℕ, suc, ◌+◌, ◌-◌, ◌/◌, ◌<◌, ◌≤◌, inl, inr, List, [], ◌∷◌, ◌++◌, drop}
use Rattle.std.proofs.Common.{drop_at, flat_map, get_or, length, length-append, map, take_at, Option, Some}
use Rattle.std.proofs.Common.{None, option_map, refl, sym, ap, ◌∙◌, append_assoc, arith}
use Rattle.std.specs.List.{range_with_len}
use Rattle.std.specs.Prelude.{◌≢◌, Result, Ok, Err, OnOk, OnErr}
use Rattle.w4_editor.specs.Editor.{Editing, current_recording}
use Rattle.w4_editor.proofs.EditorPlaceLaws.{same_recording}
use Rattle.w4_segments.specs.Settling.{IsSettledWide, IsPartlySettled}
use Rattle.std.proofs.Math.Seq.{drop-cons}
use Rattle.std.proofs.lemmas.Bool.{le-ltb, lt-ltb}
use Rattle.std.proofs.lemmas.List.{drop_all}
use Rattle.w4_defs.specs.declared.film_refusal.FilmRefusal.{FilmRefusal}
use Rattle.w4_defs.specs.declared.film_refusal.FilmRefusal.TheVariants.{OutOfMemory}
use Rattle.w4_defs.specs.declared.place_text.PlaceText.TheVariants.{Image}
use Rattle.w4_defs.specs.Film.{film_refusal, run_images}
use Rattle.w4_defs.specs.Image.{image}
use Rattle.w4_defs.specs.PlaceTexts.{PieceForm, as_it_stands, place_text}
use Rattle.w4_defs.specs.AllThere.{all_joined, joined}
use Rattle.w4_defs.specs.Run.{run}
use Rattle.w4_defs.specs.State.{Moment}
use Rattle.w4_defs.proofs.RegisterLaws.{length-image}
use Rattle.w4_answers.specs.FilmAnswer.{images_in, images_in_blocks}
use Rattle.w4_defs.specs.Reset.{Setup}
use Rattle.w4_defs.specs.ScriptAnswers.{film_or_refused, film_refusal_words, film_text, no_frame, range_text}
use Rattle.w4_defs.specs.ScriptAnswers.{refused_line}
use Rattle.w4_defs.specs.Session.{Session}
use Rattle.w4_segments.specs.Filming.{IsFilmRefusal}

-- ---- images in a form

-- an image before others
block_more : (form : PieceForm) (first rest : List ℕ) → length first ≡ 76815
    → images_in form (first ++ rest) ≡ form first ++ images_in form rest
block_more form first rest size =
    let long : length (first ++ rest) ≡ 76815 + length rest =
    length-append first rest ∙ ap (λ n. n + length rest) size in
    let count : (76815 + length rest) / 76815 ≡ suc (length rest / 76815) = omega arith in
    ap (λ n. images_in_blocks form (n / 76815) (first ++ rest)) long
    ∙ ap (λ n. images_in_blocks form n (first ++ rest)) count
    ∙ (λ i. form (take_at first rest 76815 size i)
    ++ images_in_blocks form (length rest / 76815) (drop_at first rest 76815 size i))

-- those of screens before others
pub blocks_more : (form : PieceForm) (screens : List (List ℕ)) (rest : List ℕ)
    → images_in form (flat_map image screens ++ rest)
    ≡ flat_map (λ screen. form (image screen)) screens ++ images_in form rest
blocks_more form [] rest = refl
blocks_more form (screen ∷ screens) rest =
    ap (images_in form) (append_assoc (image screen) (flat_map image screens) rest)
    ∙ block_more form (image screen) (flat_map image screens ++ rest) (length-image screen)
    ∙ ap (λ more. form (image screen) ++ more) (blocks_more form screens rest)
    ∙ sym (append_assoc (form (image screen)) (flat_map (λ x. form (image x)) screens) (images_in form rest))

-- what is left of a film, once a piece of it is written
pub blocks_joined : (form : PieceForm) (screens : List (List ℕ)) (piece : List ℕ) (rest : Option (List ℕ))
    → flat_map image screens ≡ piece
    → option_map (images_in form) (joined (Some piece) rest)
    ≡ joined (Some (flat_map (λ screen. form (image screen)) screens)) (option_map (images_in form) rest)
blocks_joined form screens piece None is = refl
blocks_joined form screens piece (Some rest) is =
    ap (λ bytes. Some (images_in form (bytes ++ rest))) (sym is)
    ∙ ap (λ bytes. Some bytes) (blocks_more form screens rest)

-- the text of one place before those of others
image_joined : (form : PieceForm) (p : ℕ) (moment : Option Moment) (rest whole : Option (List ℕ))
    → option_map (images_in form) rest ≡ whole
    → option_map (images_in form) (joined (place_text as_it_stands Image p moment) rest)
    ≡ joined (place_text form Image p moment) whole
image_joined form p None rest whole is = refl
image_joined form p (Some m) None whole is =
    ap (joined (Some (form (image m.state.page)))) is
image_joined form p (Some m) (Some rest) whole is =
    ap (λ bytes. Some bytes) (block_more form (image m.state.page) rest (length-image m.state.page))
    ∙ ap (joined (Some (form (image m.state.page)))) is

images_formed : (form : PieceForm) (moments : ℕ → Option Moment) (places : List ℕ)
    → option_map (images_in form)
    (all_joined (map (λ p. place_text as_it_stands Image p (moments p)) places))
    ≡ all_joined (map (λ p. place_text form Image p (moments p)) places)
images_formed form moments [] = refl
images_formed form moments (p ∷ places) =
    image_joined form p (moments p)
    (all_joined (map (λ p. place_text as_it_stands Image p (moments p)) places))
    (all_joined (map (λ p. place_text form Image p (moments p)) places))
    (images_formed form moments places)

-- ---- films

module _ (form : PieceForm) (setup : Setup) (disk : List ℕ) (s : Session ℕ) (a b : ℕ) where
  -- a film that isn't refused
  pub film_shown : film_refusal a b s.current.inputs ≡ None
      → film_text form setup disk s a b
      ≡ option_map (images_in form) (run_images setup disk s.current.inputs a (b + 1 - a))
  unfolding run_images
  film_shown accepted =
      ap (film_or_refused form (range_text form setup disk s Image a b)) accepted
      ∙ sym (images_formed form (λ p. run setup disk s.current.inputs p) (range_with_len a (b + 1 - a)))

  -- one that is, for another cause than memory
  pub film_refused : (refusal : FilmRefusal) → refusal ≢ OutOfMemory
      → IsFilmRefusal (film_refusal a b s.current.inputs) refusal
      → film_text form setup disk s a b ≡ Some (form (refused_line (film_refusal_words refusal)))
  film_refused refusal other (inl is) =
      ap (film_or_refused form (range_text form setup disk s Image a b)) is
  film_refused refusal other (inr (memory, none)) = absurd (other memory)

  -- one whose last place isn't there
  pub film_past : length s.current.inputs < b → film_text form setup disk s a b ≡ Some (form no_frame)
  film_past past = rw (lt-ltb (length s.current.inputs) b past) refl

  -- places that fall: no image
  pub film_of_none : b < a → b ≤ length s.current.inputs → film_text form setup disk s a b ≡ Some []
  film_of_none fall there =
      let none : b + 1 - a ≡ 0 = omega arith in
      rw (le-ltb (length s.current.inputs) b there, none) refl

-- the images of the screens that are left
pub next_image : (form : PieceForm) (screens : List (List ℕ)) (i : ℕ) (screen bytes : List ℕ)
    → i < length screens → screen ≡ get_or screens i [] → bytes ≡ image screen
    → flat_map (λ x. form (image x)) (drop i screens)
    ≡ form bytes ++ flat_map (λ x. form (image x)) (drop (i + 1) screens)
next_image form screens i screen bytes lt is same =
    let first : image (get_or screens i []) ≡ bytes = ap image (sym is) ∙ sym same in
    let next : suc i ≡ i + 1 = omega arith in
    ap (flat_map (λ x. form (image x))) (drop-cons screens i [] lt)
    ∙ (λ k. form (first k) ++ flat_map (λ x. form (image x)) (drop (next k) screens))

pub no_image : (form : PieceForm) (screens : List (List ℕ)) (i : ℕ) → length screens ≤ i
    → flat_map (λ x. form (image x)) (drop i screens) ≡ []
no_image form screens i past = ap (flat_map (λ x. form (image x))) (drop_all i screens past)

-- settling leaves the recording, however it ends
pub settled_recording : {X E : Type 0} (result : Result X E) (old new : Editing)
    → OnOk result (IsSettledWide old new) → OnErr result (IsPartlySettled old new)
    → current_recording new ≡ current_recording old
settled_recording (Ok x) old new settled partly = same_recording old new settled.recording
settled_recording (Err e) old new settled partly = same_recording old new partly.recording
