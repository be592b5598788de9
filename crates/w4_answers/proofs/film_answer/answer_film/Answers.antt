use Rattle.std.proofs.Common.{[], Some, ap, option_map, refl, sym, subst, ◌∙◌}
use Rattle.w4_editor.specs.Editor.{editing_setup, place_session}
use Rattle.w4_segments.specs.FilmPieces.{images_left}
use Rattle.w4_segments.specs.Filming.{IsFilmRefusal}
use Rattle.w4_defs.specs.Film.{film_refusal}
use Rattle.w4_defs.specs.declared.film_refusal.FilmRefusal.{FilmRefusal}
use Rattle.w4_defs.specs.declared.film_refusal.FilmRefusal.TheVariants.{FilmTooLong, NoFrame}
use Rattle.w4_defs.specs.ScriptAnswers.{film_refusal_words, film_text, no_frame, refused_line}
use Rattle.w4_answers.specs.Writing.{AppendsOut, Written}
use Rattle.w4_answers.specs.FilmAnswer.{images_in}
use Rattle.w4_editor.proofs.EditorPlaceLaws.{same_recording}
use Rattle.w4_answers.proofs.WritingLaws.{out_none, there_is}
use Rattle.w4_answers.proofs.ScriptAnswerLaws.{on_ok}
use Rattle.w4_answers.proofs.FilmAnswerLaws.{film_shown, film_refused, film_past, film_of_none}
use Rattle.w4_answers.proofs.DeskSessionLaws.{appends_nothing, only_shows, refused_place, shows_none, told}
use Rattle.w4_answers.proofs.DeskSessionLaws.{answered_on}
use Rattle.w4_answers.proofs.film_answer.answer_film.Goals as goal

pub returns-then-to-last_place-clause-answered : goal.returns-then-to-last_place-clause-answered
returns-then-to-last_place-clause-answered g c =
    let old = c.args.editor.now in
    let s = place_session old in
    let text = film_text g.S.Shape.form (editing_setup old) old.disk s c.args.a c.args.b in
    refused_place c.refuse.result (g.H.House.world c.args.house.now) (g.H.House.world c.refuse.new.house) old
    (g.S.Shape.form no_frame) text
    (film_past g.S.Shape.form (editing_setup old) old.disk s c.args.a c.args.b
    (rw (← c.last_place.ensures.last) c.if-to-last_place.true))
    c.refuse.ensures.out

pub returns-then-from-to-clause-answered : goal.returns-then-from-to-clause-answered
returns-then-from-to-clause-answered g c =
    let old = c.args.editor.now in
    let s = place_session old in
    let world = g.H.House.world c.args.house.now in
    let text = film_text g.S.Shape.form (editing_setup old) old.disk s c.args.a c.args.b in
    told world world old old text (shows_none old)
    (there_is (λ out. AppendsOut world.events world.events out) text []
    (film_of_none g.S.Shape.form (editing_setup old) old.disk s c.args.a c.args.b c.if-from-to.true
    (rw (← c.last_place.ensures.last) c.if-to-last_place.false))
    (appends_nothing world [] refl))

pub returns-in-Ok-clause-answered : goal.returns-in-Ok-clause-answered
returns-in-Ok-clause-answered g c =
    let old = c.args.editor.now in
    let new = c.begin.new.editor in
    let s = place_session old in
    let text = film_text g.S.Shape.form (editing_setup old) old.disk s c.args.a c.args.b in
    answered_on c.write_film.result (g.H.House.world c.args.house.now)
    (g.H.House.world c.write_film.new.house)
    old new (option_map (images_in g.S.Shape.form) (images_left c.in-Ok.film new)) text
    (film_shown g.S.Shape.form (editing_setup old) old.disk s c.args.a c.args.b c.in-Ok.ensures.accepted
    ∙ ap (option_map (images_in g.S.Shape.form)) (sym c.in-Ok.ensures.images))
    (on_ok c.write_film.result (only_shows old new c.in-Ok.ensures.keeps.recording))
    (same_recording old new c.in-Ok.ensures.keeps.recording) c.write_film.ensures.out

pub returns-in-Err-NoFrame-clause-answered : goal.returns-in-Err-NoFrame-clause-answered
returns-in-Err-NoFrame-clause-answered g c =
    let old = c.args.editor.now in
    let new = c.begin.new.editor in
    let s = place_session old in
    let before = g.H.House.world c.args.house.now in
    let after = g.H.House.world c.refuse-in-Err-NoFrame.new.house in
    let refused : IsFilmRefusal (film_refusal c.args.a c.args.b s.current.inputs) NoFrame =
    subst (λ (r : FilmRefusal). IsFilmRefusal (film_refusal c.args.a c.args.b s.current.inputs) r)
    c.in-Err-NoFrame.field-0-is c.in-Err-NoFrame.ensures.refused in
    answered_on c.refuse-in-Err-NoFrame.result before after old new (Some (g.S.Shape.form no_frame))
    (film_text g.S.Shape.form (editing_setup old) old.disk s c.args.a c.args.b)
    (film_refused g.S.Shape.form (editing_setup old) old.disk s c.args.a c.args.b NoFrame (λ e. cc)
    refused)
    (on_ok c.refuse-in-Err-NoFrame.result (only_shows old new c.in-Err-NoFrame.ensures.keeps.recording))
    (same_recording old new c.in-Err-NoFrame.ensures.keeps.recording)
    (there_is (λ out. Written before after c.refuse-in-Err-NoFrame.result out)
    (Some (g.S.Shape.form no_frame))
    (g.S.Shape.form no_frame) refl
    c.refuse-in-Err-NoFrame.ensures.out)

pub returns-in-Err-FilmTooLong-clause-answered : goal.returns-in-Err-FilmTooLong-clause-answered
returns-in-Err-FilmTooLong-clause-answered g c =
    let old = c.args.editor.now in
    let new = c.begin.new.editor in
    let s = place_session old in
    let before = g.H.House.world c.args.house.now in
    let after = g.H.House.world c.write.new.house in
    let line = g.S.Shape.form (refused_line (film_refusal_words FilmTooLong)) in
    let refused : IsFilmRefusal (film_refusal c.args.a c.args.b s.current.inputs) FilmTooLong =
    subst (λ (r : FilmRefusal). IsFilmRefusal (film_refusal c.args.a c.args.b s.current.inputs) r)
    c.in-Err-FilmTooLong.field-0-is c.in-Err-FilmTooLong.ensures.refused in
    answered_on c.write.result before after old new (Some line)
    (film_text g.S.Shape.form (editing_setup old) old.disk s c.args.a c.args.b)
    (film_refused g.S.Shape.form (editing_setup old) old.disk s c.args.a c.args.b FilmTooLong (λ e. cc)
    refused)
    (on_ok c.write.result
    (only_shows old new c.in-Err-FilmTooLong.ensures.keeps.recording))
    (same_recording old new c.in-Err-FilmTooLong.ensures.keeps.recording)
    (there_is (λ out. Written before after c.write.result out) (Some line) line refl
    c.write.ensures.out)

pub returns-in-Err-OutOfMemory-clause-answered : goal.returns-in-Err-OutOfMemory-clause-answered
returns-in-Err-OutOfMemory-clause-answered g c =
    let world = g.H.House.world c.args.house.now in (
      λ out is. out_none world.events world.events out refl,
      same_recording c.args.editor.now c.begin.new.editor c.in-Err-OutOfMemory.ensures.keeps.recording,
    )
