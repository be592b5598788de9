use Rattle.std.proofs.Common.{◌≡◌, ◌+◌, ◌++◌, List, length, take, drop, refl, sym, ◌∙◌, subst, arith}
use Rattle.std.proofs.lemmas.List.{take_at}
use Rattle.w4_console.specs.Calls.{setup_of}
use Rattle.w4_defs.specs.Recording.{Recording}
use Rattle.w4_defs.specs.Reset.{Setup}
use Rattle.w4_editor.specs.Editor.{editing_setup}
use Rattle.w4_segments.specs.declared.worker.Worker.{Worker}
use Rattle.w4_segments.specs.FilmPieces.{CanGoOn, ArePieces}
use Rattle.w4_segments.specs.Worker.{EachDid}
use Rattle.w4_segments.specs.Pieces.{HasFilmed}
use Rattle.w4_segments.proofs.FilmPieceLaws.{round_more}
use Rattle.w4_segments.proofs.film_pieces.FilmPieces.make_next.Goals as goal

pub returns : goal.returns
returns g c =
    let e = c.args.editor.now in
    let film = c.args.self.now in
    let dealt = c.deal_pieces.new.worker_list in
    let new = c.film_all.new.worker_list in
    let passed = c.requires.filming.passed in
    let none = c.if-self.false in
    let same : film.filmed ≡ film.next = omega (arith, passed, none) in
    let pieces : ArePieces e film.first film.end film.filmed film.worker_list.items dealt =
    subst (λ (worker_list : List Worker). ArePieces e film.first film.end film.filmed worker_list dealt)
    c.as_mut_slice-worker_list.ensures.value c.in_ok-deal_pieces.ensures in
    let did : EachDid (HasFilmed (editing_setup e) e.disk e.session.current.inputs) dealt new =
    subst (λ (setup : Setup). EachDid (HasFilmed setup e.disk e.session.current.inputs) dealt new)
    c.setup.ensures
    (subst (λ (r : Recording). EachDid (HasFilmed (setup_of c.setup.result) r.disk r.frames) dealt new)
    c.recording.ensures c.film_all.ensures) in
    let more = round_more e film.worker_list.items film.first film.end film.first_entry film.next film.filmed
    c.requires.filming dealt new same c.requires.more c.is_consistent.ensures.kept.few pieces did in
    let back : take film.worker_list.len (new ++ drop (length new) film.worker_list.items) ≡ new =
    take_at new (drop (length new) film.worker_list.items) film.worker_list.len
    (did.many ∙ c.in_ok-deal_pieces.ensures.many ∙ c.as_mut_slice-worker_list.ensures.len) in
    record {
      filming = subst (λ (worker_list : List Worker). CanGoOn worker_list film.first film.end film.first_entry
          film.next
          (film.filmed + length new) e) (sym back) more.0;
      first = refl;
      end = refl;
      next = refl;
      some = more.1;
    }
