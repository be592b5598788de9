-- Lines of a live session, one after another, and the output that they come to.
use Rattle.std.proofs.Common.{◌≡◌, ℕ, List, [], ◌∷◌, ◌++◌, Option, Some, None, option_map, refl, sym, ap, ◌∙◌}
use Rattle.std.proofs.Common.{append_assoc}
use Rattle.std.proofs.lemmas.List.{append-nil}
use Rattle.w4_defs.specs.declared.live.LiveOrder.TheVariants as live
use Rattle.w4_defs.specs.AllThere.{joined}
use Rattle.w4_defs.specs.Live.{Asked, AsksNothing, NoOrder, Asks, LiveSession, LiveStep, Opened, SaveEnd}
use Rattle.w4_defs.specs.Live.{Talk, asked_of, first_live_session, line_step, save_step, saving, saving_after}
use Rattle.w4_defs.specs.Live.{serve_result, served, session_after, session_events, taken_lines}
use Rattle.w4_defs.specs.World.{Event, Took, InputEnded, InputLost, Wrote, Saved, NotSaved}
use Rattle.w4_commands.specs.Serve.{HasServed}
use Rattle.w4_answers.specs.LiveAnswer.{StepsTo}

-- ---- lists that may not be there

same_there : {A : Type 0} (found : Option (List A)) → found ≡ option_map (λ later. later) found
same_there None = refl
same_there (Some x) = refl

joined_there : {A : Type 0} (first second : List A) (rest : Option (List A))
    → joined (Some first) (joined (Some second) rest) ≡ option_map (λ later. first ++ (second ++ later)) rest
joined_there first second None = refl
joined_there first second (Some rest) = refl

regrouped : {A : Type 0} (done more : List A) (rest : Option (List A))
    → option_map (λ later. done ++ later) (option_map (λ later. more ++ later) rest)
    ≡ option_map (λ later. (done ++ more) ++ later) rest
regrouped done more None = refl
regrouped done more (Some rest) = ap Some (sym (append_assoc done more rest))

-- ---- how saves end changes nothing of what is edited

save_session : (o : Opened) (s : LiveSession) (ends : List SaveEnd) → (save_step o s ends).session ≡ s
save_session o s [] = refl
save_session o s (end ∷ ends) = refl

step_session : (o : Opened) (s : LiveSession) (ends others : List SaveEnd) (asked : Asked)
    → (line_step o s ends asked).session ≡ (line_step o s others asked).session
step_session o s ends others AsksNothing = refl
step_session o s ends others NoOrder = refl
step_session o s ends others (Asks (live.Script order)) = refl
step_session o s ends others (Asks (live.Query ask)) = refl
step_session o s ends others (Asks (live.PageAt p)) = refl
step_session o s ends others (Asks (live.GlobalsAt p)) = refl
step_session o s ends others (Asks (live.Inputs a b)) = refl
step_session o s ends others (Asks (live.Units a b)) = refl
step_session o s ends others (Asks live.Save) = save_session o s ends ∙ sym (save_session o s others)

-- ---- lines

after_more : (o : Opened) (s : LiveSession) (lines : List (List ℕ)) (line : List ℕ)
    → session_after o s (lines ++ line ∷ [])
    ≡ (line_step o (session_after o s lines) [] (asked_of line)).session
after_more o s [] line = refl
after_more o s (one ∷ lines) line = after_more o (line_step o s [] (asked_of one)).session lines line

pub taken-append : (some more : List Event) → taken_lines (some ++ more) ≡ taken_lines some ++ taken_lines
    more
taken-append [] more = refl
taken-append (Took line ∷ some) more = ap (λ lines. line ∷ lines) (taken-append some more)
taken-append (InputEnded ∷ some) more = taken-append some more
taken-append (InputLost ∷ some) more = taken-append some more
taken-append (Wrote byte ∷ some) more = taken-append some more
taken-append (Saved name bytes ∷ some) more = taken-append some more
taken-append (NotSaved name ∷ some) more = taken-append some more

pub served_none : (o : Opened) → HasServed o [] [] [] (first_live_session o)
served_none o = record {
  goes_on = λ more ends. same_there (session_events o (first_live_session o) ends more);
  left = refl;
  taken = refl;
}

-- the step of a line, in the events of it and of all later lines
one_step : (o : Opened) (step : LiveStep) (line : List ℕ) (events : List Event) (next : LiveSession)
    (ends : List SaveEnd) (more : List (List ℕ))
    → step ≡ record { events = Some events; session = next; saves = ends }
    → joined (Some (Took line ∷ [])) (joined step.events (session_events o step.session step.saves more))
    ≡ option_map (λ later. (Took line ∷ events) ++ later) (session_events o next ends more)
one_step o step line events next ends more e =
    ap (λ (x : LiveStep). joined (Some (Took line ∷ []))
    (joined x.events (session_events o x.session x.saves more))) e
    ∙ joined_there (Took line ∷ []) events (session_events o next ends more)

one_line : (o : Opened) (s next : LiveSession) (line : List ℕ) (mine : List SaveEnd) (events : List Event)
    (ends : List SaveEnd) (more : List (List ℕ)) → StepsTo o s line mine events next
    → session_events o s (mine ++ ends) (line ∷ more)
    ≡ option_map (λ later. (Took line ∷ events) ++ later) (session_events o next ends more)
unfolding session_events
one_line o s next line mine events ends more steps =
    one_step o (line_step o s (mine ++ ends) (asked_of line)) line events next ends more (steps.step ends)

left_after : (o : Opened) (s next : LiveSession) (lines : List (List ℕ)) (line : List ℕ) (mine : List SaveEnd)
    (events : List Event) → session_after o (first_live_session o) lines ≡ s
    → StepsTo o s line mine events next
    → session_after o (first_live_session o) (lines ++ line ∷ []) ≡ next
left_after o s next lines line mine events left steps =
    after_more o (first_live_session o) lines line
    ∙ ap (λ x. (line_step o x [] (asked_of line)).session) left
    ∙ step_session o s [] (mine ++ []) (asked_of line)
    ∙ ap (λ (x : LiveStep). x.session) (steps.step [])

taken_after : (done : List Event) (lines : List (List ℕ)) (line : List ℕ) (front : List Event)
    → taken_lines done ≡ lines → taken_lines front ≡ []
    → taken_lines (done ++ Took line ∷ front) ≡ lines ++ line ∷ []
taken_after done lines line front taken none =
    taken-append done (Took line ∷ front)
    ∙ ap (λ before. before ++ line ∷ taken_lines front) taken
    ∙ ap (λ rest. lines ++ line ∷ rest) none

pub served_line : (o : Opened) (s next : LiveSession) (lines : List (List ℕ)) (saves mine : List SaveEnd)
    (done events : List Event) (line : List ℕ) → HasServed o lines saves done s
    → StepsTo o s line mine events next
    → HasServed o (lines ++ line ∷ []) (saves ++ mine) (done ++ Took line ∷ events) next
served_line o s next lines saves mine done events line h steps = record {
  goes_on = λ more ends.
      (λ i. session_events o (first_live_session o) (append_assoc saves mine ends i)
      (append_assoc lines (line ∷ []) more i))
      ∙ h.goes_on (line ∷ more) (mine ++ ends)
      ∙ ap (option_map (λ later. done ++ later)) (one_line o s next line mine events ends more steps)
      ∙ regrouped done (Took line ∷ events) (session_events o next ends more);
  left = left_after o s next lines line mine events h.left steps;
  taken = taken_after done lines line events h.taken steps.untaken;
}

-- ---- the output

abbrev pub talk_of : List (List ℕ) → List SaveEnd → Talk
talk_of lines saves = record { lines = lines; saves = saves }

all_served : (o : Opened) (s : LiveSession) (lines : List (List ℕ)) (saves : List SaveEnd) (done : List Event)
    → HasServed o lines saves done s
    → session_events o (first_live_session o) saves lines ≡ Some done
unfolding session_events
all_served o s lines saves done h =
    (λ i. session_events o (first_live_session o) (sym (append-nil saves) i) (sym (append-nil lines) i))
    ∙ h.goes_on [] []
    ∙ ap (λ (events : List Event). Some events) (append-nil done)

pub served_is : (o : Opened) (s : LiveSession) (lines : List (List ℕ)) (saves : List SaveEnd)
    (done : List Event) → HasServed o lines saves done s
    → served o (talk_of lines saves) ≡ Some (serve_result o (talk_of lines saves) done)
served_is o s lines saves done h =
    ap (option_map (serve_result o (talk_of lines saves))) (all_served o s lines saves done h)

pub saving_is : (o : Opened) (s : LiveSession) (lines : List (List ℕ)) (saves : List SaveEnd)
    (done : List Event) → HasServed o lines saves done s → saving_after o lines ≡ saving o s
saving_is o s lines saves done h = ap (λ (x : LiveSession). saving o x) h.left
