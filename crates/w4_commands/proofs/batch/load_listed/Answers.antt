use Rattle.std.proofs.Common.{◌≡◌, ◌∷◌, [], List, ℕ, get_or, map, string_bytes, refl, sym, subst, Ok}
use Rattle.std.specs.Option.{ForSome}
use Rattle.std.proofs.lemmas.List.{length-append, map-append}
use Rattle.std.proofs.lemmas.Result.{err_from_is_err_and}
use Rattle.w4_house.proofs.WorldLaws.{reading_then}
use Rattle.w4_commands.specs.Load.{ResultsIn, Stops}
use Rattle.w4_defs.specs.Endings.{manner_of}
use Rattle.w4_defs.specs.Output.{reading}
use Rattle.w4_commands.proofs.BatchListLaws.{owes_fewer, owes_no_file, owes_stops, named_item, past_all_names}
use Rattle.w4_commands.proofs.BatchListLaws.{within_all}
use Rattle.w4_commands.proofs.batch.load_listed.Goals as goal

pub loop-name-preserved : goal.loop-name-preserved
loop-name-preserved g c =
    let old = g.H.House.world c.args.house.now in
    let now = g.H.House.world c.loop-name.house in
    let after = g.H.House.world c.read_file.new.house in
    let all = map string_bytes c.args.names.now in
    let i = c.loop-name.name-index in
    let before = map (λ bytes. bytes.items) c.loop-name.recordings.items in
    let name : get_or all i [] ≡ c.as_str.result.now =
    named_item c.args.names.now i c.name-item.result c.as_str.result.now c.loop-name-test.true c.name-item.is
    c.as_str.ensures.value in
    let read = subst
    (λ (n : List ℕ). ForSome now.files (λ files. reading files n 361072 ≡ Ok c.in_ok-bytes.bytes.items))
    (sym name) c.in_ok-bytes.ensures.gives in (
      rw (
        c.in_ok-push.ensures.items,
        map-append (λ bytes. bytes.items) c.loop-name.recordings.items
            (c.in_ok-bytes.bytes ∷ []),
      )
          (owes_fewer old now before c.in_ok-bytes.bytes.items all i
          (within_all c.args.names.now i c.loop-name-test.true) c.loop-name.invariant.2 read
          c.loop-name.invariant.0),
      rw (
        c.in_ok-push.ensures.items,
        length-append c.loop-name.recordings.items (c.in_ok-bytes.bytes ∷ []),
        c.loop-name.invariant.1,
      ) refl,
      reading_then old now after c.loop-name.invariant.2 c.in_ok-bytes.ensures.rest,
    )

pub returns-in_err-bytes-clause-gives : goal.returns-in_err-bytes-clause-gives
returns-in_err-bytes-clause-gives g c =
    let old = g.H.House.world c.args.house.now in
    let now = g.H.House.world c.loop-name.house in
    let after = g.H.House.world c.read_file.new.house in
    let all = map string_bytes c.args.names.now in
    let i = c.loop-name.name-index in
    let before = map (λ bytes. bytes.items) c.loop-name.recordings.items in
    let why = manner_of c.in_err-bytes.field-0.0 in
    let name : get_or all i [] ≡ c.as_str.result.now =
    named_item c.args.names.now i c.name-item.result c.as_str.result.now c.loop-name-test.true c.name-item.is
    c.as_str.ensures.value in
    let stops = subst
    (λ (n : List ℕ). Stops now after why (ResultsIn (λ files. reading files n 361072)))
    (sym name) c.in_err-bytes.ensures.gives in
    let p = err_from_is_err_and c.from_residual.result c.from_residual.ensures.1 in
    rw (p.1, p.2)
    (owes_stops old now after why before all i (within_all c.args.names.now i c.loop-name-test.true)
    c.loop-name.invariant.2 c.loop-name.invariant.0 stops)

pub returns-clause-gives : goal.returns-clause-gives
returns-clause-gives g c =
    let all = map string_bytes c.args.names.now in
    owes_no_file (g.H.House.world c.args.house.now) (map (λ bytes. bytes.items)
    c.loop-name.recordings.items) all
    c.loop-name.name-index (past_all_names c.args.names.now c.loop-name.name-index c.loop-name-test.false)
    c.loop-name.invariant.0
