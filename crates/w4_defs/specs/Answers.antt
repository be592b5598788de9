-- Orders that are answered one after another (project rule), each over the session that those before it
-- leave.
use Rattle.std.specs.Prelude.{ℕ, List, [], ◌∷◌, Option, Some}
use Rattle.w4_defs.specs.AllThere.{joined}

-- what is written, None where a run that it tells of has no meaning; and the session that is left
pub record Answered (Session : Type 0) : Type 0 where
  pub out : Option (List ℕ)
  pub session : Session

-- an answer that leaves the session as it is
abbrev pub answer_text : {Session : Type 0} → Session → Option (List ℕ) → Answered Session
answer_text session out = record { out = out; session = session }

-- an order that is carried out, of which nothing is told
abbrev pub carried_out : {Session : Type 0} → Session → Answered Session
carried_out session = answer_text session (Some [])

-- all answers in order
unfoldable pub answers_by : {Session Order : Type 0} → (Session → Order → Answered Session) → Session
    → List Order → Answered Session
answers_by answer session [] = carried_out session
answers_by answer session (order ∷ orders) =
    let first = answer session order in
    let rest = answers_by answer first.session orders in
    record { out = joined first.out rest.out; session = rest.session }
