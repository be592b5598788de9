use Rattle.std.proofs.Common.{ℕ, ◌+◌, ◌-◌, ◌∷◌, ◌++◌, [], List, Option, map, Some, ap, sym, ◌∙◌}
use Rattle.std.specs.List.{range_with_len}
use Rattle.w4_defs.specs.AllThere.{all_some}
use Rattle.w4_inspect.proofs.PlacePageLaws.{same_pages}
use Rattle.w4_inspect.proofs.place_pages.PlacePages.read.Goals as goal

pub add_pages-requires-clause-first : goal.add_pages-requires-clause-first
add_pages-requires-clause-first g c =
    let old = c.args.editor.now in
    let shown = c.shown_page.new.editor in
    ap (λ (f : ℕ → Option (List ℕ)). all_some (f c.args.a ∷ []))
    (same_pages old shown c.in_ok-first.ensures.shown.recording)
    ∙ ap (λ (first : Option (List ℕ)). all_some (first ∷ [])) c.in_ok-first.ensures.page
    ∙ ap (λ (pages : List (List ℕ)). Some (pages ++ c.in_ok-first.first ∷ []))
    (sym c.in_ok-pages.ensures.items)
    ∙ ap Some (sym c.in_ok-push.ensures.items)

pub returns-clause-pages : goal.returns-clause-pages
returns-clause-pages g c = record {
  there = c.requires.place;
  are = ap (λ (f : ℕ → Option (List ℕ)). all_some (map f (range_with_len c.args.a (c.args.b + 1 - c.args.a))))
      (sym (same_pages c.args.editor.now c.shown_page.new.editor c.in_ok-first.ensures.shown.recording))
      ∙ c.in_ok-add_pages.ensures.pages;
}
