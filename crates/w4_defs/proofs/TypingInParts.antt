-- A list that is cut in two has a type if and only if its parts have.
use Rattle.std.specs.Prelude.{refl, List}
use Rattle.std.proofs.Common.{sym, subst}
use Rattle.w4_defs.specs.declared.value.ValType.{ValType}
use Rattle.w4_defs.specs.Tree.{Expr, done, plain, block, loop, if_then, if_else}
use Rattle.w4_defs.specs.Typing.{Context, HasType, TypesInParts, followed_by}

abbrev Parts : Context → Expr → Expr → List ValType → List ValType → Type 0
Parts c e tail ins outs = (mid : List ValType) × HasType c e ins mid × HasType c tail mid outs

pub cut : (c : Context) (e tail : Expr) (ins outs : List ValType) → HasType c (followed_by e tail) ins outs
    → Parts c e tail ins outs
cut c done tail ins outs h = (ins, refl, h)
cut c (plain m rest) tail ins outs (mid, led, h) =
    let p = cut c rest tail mid outs h in (p.0, (mid, led, p.1), p.2)
cut c (block r inner rest) tail ins outs (held, h) =
    let p = cut c rest tail _ outs h in (p.0, (held, p.1), p.2)
cut c (loop r inner rest) tail ins outs (held, h) =
    let p = cut c rest tail _ outs h in (p.0, (held, p.1), p.2)
cut c (if_then r taken rest) tail ins outs (none, ts, e, held, h) =
    let p = cut c rest tail _ outs h in (p.0, (none, ts, e, held, p.1), p.2)
cut c (if_else r taken other rest) tail ins outs (ts, e, held, others, h) =
    let p = cut c rest tail _ outs h in (p.0, (ts, e, held, others, p.1), p.2)

pub put_together : (c : Context) (e tail : Expr) (ins outs : List ValType) → Parts c e tail ins outs
    → HasType c (followed_by e tail) ins outs
put_together c done tail ins outs (mid, same, h) = subst (λ ts. HasType c tail ts outs) (sym same) h
put_together c (plain m rest) tail ins outs (mid, (next, led, h), g) =
    (next, led, put_together c rest tail next outs (mid, h, g))
put_together c (block r inner rest) tail ins outs (mid, (held, h), g) =
    (held, put_together c rest tail _ outs (mid, h, g))
put_together c (loop r inner rest) tail ins outs (mid, (held, h), g) =
    (held, put_together c rest tail _ outs (mid, h, g))
put_together c (if_then r taken rest) tail ins outs (mid, (none, ts, e, held, h), g) =
    (none, ts, e, held, put_together c rest tail _ outs (mid, h, g))
put_together c (if_else r taken other rest) tail ins outs (mid, (ts, e, held, others, h), g) =
    (ts, e, held, others, put_together c rest tail _ outs (mid, h, g))

pub types_in_parts : TypesInParts
types_in_parts c e tail ins outs = (cut c e tail ins outs, put_together c e tail ins outs)
