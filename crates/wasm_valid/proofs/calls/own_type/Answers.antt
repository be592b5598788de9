use Rattle.std.proofs.Common.{◌<◌, ap, get_or, length, arith}
use Rattle.wasm_valid.proofs.CallLaws.{own_index_below, own_type_at}
use Rattle.wasm_valid.proofs.calls.own_type.Goals as goal

pub bounds-types-functions : goal.bounds-types-functions
bounds-types-functions c =
    let within : c.args.func < length c.functions-functions.result.now =
    omega (
      arith,
      ap length c.functions-functions.ensures.value,
      c.functions-functions.ensures.as_many_bodies,
      c.requires.within,
    ) in
    omega (
      arith,
      own_index_below c.args.code.now c.functions-functions.result.now c.args.func
          c.requires.ready.rules c.functions-functions.ensures.value within,
      ap length c.types.ensures,
    )

pub returns : goal.returns
returns c =
    let within : c.args.func < length c.functions-functions.result.now =
    omega (
      arith,
      ap length c.functions-functions.ensures.value,
      c.functions-functions.ensures.as_many_bodies,
      c.requires.within,
    ) in
    let below : get_or c.functions-functions.result.now c.args.func 0 < length c.types.result.now =
    omega (
      arith,
      own_index_below c.args.code.now c.functions-functions.result.now c.args.func
          c.requires.ready.rules c.functions-functions.ensures.value within,
      ap length c.types.ensures,
    ) in
    own_type_at c.args.code.now c.functions-functions.result.now c.types.result.now c.args.func
    c.index-types-functions.result c.functions-functions.ensures.value c.types.ensures within below
    c.index-types-functions.is
