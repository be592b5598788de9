use Rattle.std.proofs.Common.{◌≡◌, ◌≤◌, ◌+◌, List, length, drop, inl, inr, sym, ◌∙◌, subst, arith}
use Rattle.std.specs.List.{All}
use Rattle.std.proofs.lemmas.Bool.{cases_lt}
use Rattle.std.proofs.lemmas.List.{take_at}
use Rattle.w4_defs.specs.Module.{WasmModule}
use Rattle.w4_segments.specs.declared.worker.Worker.{Worker}
use Rattle.w4_segments.specs.FilmPieces.{CanGoOn}
use Rattle.w4_segments.specs.Worker.{HasCartTypes}
use Rattle.w4_segments.proofs.FilmPieceLaws.{film_begun, images_begun, keeps_cart, keeps_count}
use Rattle.w4_segments.proofs.PieceLaws.{states_below}
use Rattle.w4_segments.proofs.film_pieces.begin_there.Goals as goal

pub returns-clause-filming : goal.returns-clause-filming
returns-clause-filming g c =
    let now = c.settle_rounds.new.editor in
    let first = c.last_up_to-first.result in
    let last = c.last_up_to-last.result in
    let hired = c.in_ok-worker_list.worker_list in
    let worker_list = c.settle_rounds.new.worker_list in
    let places = c.settle_rounds.ensures.keeps.recording.places in
    let many = places.many in
    let inputs = keeps_count c.args.editor.now now c.settle_rounds.ensures.keeps.recording in
    let cart = keeps_cart c.args.editor.now now c.settle_rounds.ensures.keeps.recording in
    let as_hired : length worker_list ≡ hired.len = c.settle_rounds.ensures.many
    ∙ c.as_mut_slice.ensures.len in
    let as_asked : hired.len ≡ c.min-worker_count.result = c.in_ok-worker_list.ensures.many in
    let least = c.min-worker_count.ensures in
    let most = c.max.ensures in
    let order = c.requires.order in
    let some = c.args.workers.some in
    let few = c.args.workers.few in
    let there = c.requires.there in
    let low = c.last_up_to-first.ensures.below in
    let inside = c.last_up_to-first.ensures.there in
    let kept = c.is_consistent.ensures.kept.few in
    let rises : first ≤ last = elim (cases_lt last first) [
      | inl past ↦ absurd (let high = c.last_up_to-last.ensures.above first past inside in omega
          (arith, high, low, order))
      | inr le ↦ le
    ] in
    subst (λ (workers : List Worker). CanGoOn workers c.args.a (c.args.b + 1) first first first now)
    (sym (take_at worker_list (drop (length worker_list) hired.items) hired.len as_hired))
    (film_begun now worker_list c.args.a (c.args.b + 1) first
    (omega (arith, as_hired, as_asked, least, most, some, rises))
    (omega (arith, as_hired, as_asked, least, few))
    (omega (arith, order))
    (omega (arith, there, inputs))
    (states_below now last (c.args.b + 1) c.is_consistent-2.ensures
    c.in_ok-settle_rounds.ensures.linked
    (λ i past lt.
    let high = c.last_up_to-last.ensures.above i past (omega (arith, lt, many)) in
    let same = places.places i in
    omega (arith, high, same)))
    (subst (λ (m : WasmModule). All (HasCartTypes m) worker_list) (sym cart)
    c.in_ok-settle_rounds.ensures.types)
    (omega (arith, inside, kept)))

pub returns-clause-images : goal.returns-clause-images
returns-clause-images g c =
    images_begun c.args.editor.now c.settle_rounds.new.editor c.last_up_to-first.result c.args.a c.args.b
    c.settle_rounds.ensures.keeps.recording
    c.last_up_to-first.ensures.there
    c.last_up_to-first.ensures.below
    c.requires.order
