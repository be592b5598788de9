use Rattle.std.proofs.Common.{◌≢◌, ◌≤◌, ◌∷◌, [], ◌++◌, ℕ, List, length, ap, sym, subst, ◌∙◌, take}
use Rattle.std.proofs.KnownBytes.{Consumes-trans}
use Rattle.std.proofs.lemmas.List.Elements.{All-push}
use Rattle.w4_house.specs.Lines.{GivesByte}
use Rattle.w4_house.proofs.LineLaws.{kept_front, take_within}
use Rattle.w4_house.proofs.line.next_line.Goals as goal

pub loop-preserved : goal.loop-preserved
loop-preserved g c =
    let so_far = c.loop.invariant.1 in
    let read = so_far.0 in
    let byte = c.in-Some.byte in
    let most = c.args.most in
    let remaining = g.R.Read.remaining in
    let front = c.in_ok-add_to_front-in-Some.ensures.front in
    let given = subst (λ b. GivesByte (remaining c.loop.reader) (remaining c.next_byte.new.reader) b)
    c.in-Some.is c.in_ok-next_byte.ensures.byte in (
      subst (λ (xs : List ℕ). length xs ≤ most) (sym {A = List ℕ} front)
          (take_within most (c.loop.front.items ++ byte ∷ [])),
      (
        read ++ byte ∷ [],
        front ∙ ap (λ (xs : List ℕ). take most (xs ++ byte ∷ [])) so_far.1
            ∙ kept_front most read (byte ∷ []),
        All-push (λ b. b ≢ 10) read byte so_far.2 c.in-Some.byte-test.1,
        Consumes-trans (remaining c.args.reader.now) (remaining c.loop.reader)
            (remaining c.next_byte.new.reader) read (byte ∷ []) so_far.3 given,
      ),
    )
