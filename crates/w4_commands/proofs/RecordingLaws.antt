-- Commands that write what they make of a recording or a disk.
use Rattle.std.proofs.Common.{◌≡◌, ℕ, ◌+◌, ◌<◌, ◌≤◌, List, [], ◌∷◌, ◌++◌, drop, pos, false, get_or, length}
use Rattle.std.proofs.Common.{Result, Ok, Err, refl, ap, subst, ◌∙◌}
use Rattle.std.proofs.lemmas.List.{drop_more}
use Rattle.std.specs.Option.{ForSome}
use Rattle.w4_defs.specs.World.{Files, World, LeavesReading, LeavesWriting}
use Rattle.w4_defs.specs.declared.status.Refusal.{Refusal}
use Rattle.w4_defs.specs.Causes.{Ends}
use Rattle.w4_defs.specs.Endings.{Manner, manner_of}
use Rattle.std.specs.Prelude.{codes}
use Rattle.w4_defs.specs.FrameTexts.{line_end, numbered}
use Rattle.w4_defs.specs.Recording.{Recording}
use Rattle.w4_defs.specs.InputsText.{disk_remark, input_lines, input_words, inputs_text}
use Rattle.w4_defs.specs.declared.console.Input.{Input}
use Rattle.w4_defs.specs.Output.{◌>>=◌, Output, only_written}
use Rattle.w4_answers.specs.Writing.{AppendsOut, StopsWriting, Written}
use Rattle.w4_commands.specs.Commands.{EndsDone}
use Rattle.w4_commands.specs.Load.{ResultsIn, Stops}
use Rattle.w4_answers.proofs.WritingLaws.{Owes, owes_less, piece_stopped}
use Rattle.w4_commands.proofs.CommandLaws.{ends_text, ends_unread}

-- what is written of a file
abbrev pub written_of : {G : Type 0} → (Files → Result G Refusal) → (G → List ℕ) → Files
    → Result Output Refusal
written_of read text files = read files >>= λ g. Ok (only_written (text g))

-- the file was judged, and the text of it written
pub ends_written_of : {X G : Type 0} (first second third : World) (read : Files → Result G Refusal)
    (text : G → List ℕ) (g : G) → LeavesReading first second → LeavesWriting second third
    → ForSome first.files (λ files. read files ≡ Ok g) → (result : Result X Refusal)
    → Written second third result (text g)
    → EndsDone first third result (ResultsIn (written_of read text))
ends_written_of first second third read text g leaves rest given result h =
    ends_text first second third leaves rest (text g) (ResultsIn (written_of read text))
    (λ files told. rw (given files told) refl) result h

-- it was refused, and nothing is written
pub ends_unwritten : {G : Type 0} (old new : World) (why : Refusal) (read : Files → Result G Refusal)
    (text : G → List ℕ) → LeavesReading old new → Stops old new (manner_of why) (ResultsIn read)
    → Ends old new (Err why) (ResultsIn (written_of read text))
ends_unwritten old new why read text leaves h =
    ends_unread old new (ResultsIn read) (ResultsIn (written_of read text)) leaves
    (λ files fault none. rw none refl) why h

-- ---- a recording as text

-- the text, by its remarks and its lines
pub text_of_parts : (P : List ℕ → Type 0) (r : Recording) (remarks lines : List ℕ)
    → remarks ≡ numbered (codes "# budget") (r.budget ∷ []) ++ disk_remark r.disk
    → lines ≡ input_lines (codes "insert") 0 r.frames
    → P (remarks ++ lines) → P (inputs_text r)
unfolding inputs_text
text_of_parts P r remarks lines one two h =
    let head = numbered (codes "# budget") (r.budget ∷ []) ++ disk_remark r.disk in
    subst P (ap (λ (xs : List ℕ). xs ++ lines) one ∙ ap (λ (xs : List ℕ). head ++ xs) two) h

-- the line of one input
abbrev pub line_of : List ℕ → ℕ → Input → List ℕ
line_of word k input = word ++ input_words k input ++ line_end

-- what is read of a list where nothing stands
abbrev pub no_input : Input
no_input = record { pads = []; mouse_x = pos 0; mouse_y = pos 0; buttons = 0; reset = false }

-- the lines from an input on are its own and those from the next on
lines_next : (word : List ℕ) (k : ℕ) (inputs : List Input) → k < length inputs
    → input_lines word k (drop k inputs)
    ≡ line_of word k (get_or inputs k no_input) ++ input_lines word (k + 1) (drop (k + 1) inputs)
lines_next word k inputs lt = rw (drop_more inputs k no_input lt) refl

pub lines_more : (first now next : World) (word : List ℕ) (k : ℕ) (inputs : List Input)
    → k < length inputs
    → AppendsOut now.events next.events (line_of word k (get_or inputs k no_input))
    → Owes first now (input_lines word k (drop k inputs)) (input_lines word 0 inputs)
    → Owes first next (input_lines word (k + 1) (drop (k + 1) inputs)) (input_lines word 0 inputs)
lines_more first now next word k inputs lt h so_far =
    let whole = input_lines word 0 inputs in
    owes_less first now next (line_of word k (get_or inputs k no_input))
    (input_lines word (k + 1) (drop (k + 1) inputs)) whole h
    (subst (λ owed. Owes first now owed whole) (lines_next word k inputs lt) so_far)

-- where the line of an input stopped
pub lines_stop : (first now next : World) (why : Manner) (word : List ℕ) (k : ℕ) (inputs : List Input)
    → k < length inputs → first.write_faults ≤ now.write_faults
    → Owes first now (input_lines word k (drop k inputs)) (input_lines word 0 inputs)
    → StopsWriting now next why (line_of word k (get_or inputs k no_input))
    → StopsWriting first next why (input_lines word 0 inputs)
lines_stop first now next why word k inputs lt le so_far h =
    piece_stopped first now next why (line_of word k (get_or inputs k no_input))
    (input_lines word (k + 1) (drop (k + 1) inputs))
    (input_lines word k (drop k inputs)) (input_lines word 0 inputs) (lines_next word k inputs lt) le
    so_far h
