-- Up to 1,024 places are kept.
use Rattle.std.proofs.Common.{ℕ, cond, List, None, Some, length, refl, ap, arith}
use Rattle.std.proofs.lemmas.Bool.{le-ltb, lt-ltb, le-leb, lt-leb}
use Rattle.w4_defs.specs.declared.editing.EditRefusal.TheVariants.{FullSnapshots}
use Rattle.w4_defs.specs.Session.{Kind, all_kept, multiples, unless, with_list, KeepLimit, KeepEveryLimit}

pub keep_limit : {A : Type 0} (kind : Kind A) → KeepLimit kind
keep_limit kind x session there other = (
  λ few. rw (
    le-ltb (length session.current.inputs) (kind.place x) there,
    other,
    lt-ltb
        (length session.current.kept) 1024 (omega (arith, few)),
  ) refl,
  λ many. rw (
    le-ltb (length session.current.inputs) (kind.place x) there,
    other,
    le-ltb
        (length session.current.kept) 1024 many,
  ) refl,
)

pub keep_every_limit : KeepEveryLimit
keep_every_limit every session =
    let kept : List ℕ = all_kept (multiples every (length session.current.inputs)) session.current.kept in (
      λ few. ap (λ t. unless (cond t None (Some FullSnapshots)) (with_list session kept))
          (le-leb (length kept) 1024 few),
      λ many. ap (λ t. unless (cond t None (Some FullSnapshots)) (with_list session kept))
          (lt-leb (length kept) 1024 (omega (arith, many))),
    )
