-- Bytes are one cart or are refused for one cause, so the output is one too.
use Rattle.std.proofs.Common.{◌≡◌, ℕ, ◌<◌, ◌⊎◌, inl, inr, List, Option, Some, None, Result, Ok, Err, refl}
use Rattle.std.proofs.Common.{sym, ap, subst, ◌∙◌, arith}
use Rattle.std.proofs.lemmas.Bool.{cases_order}
use Rattle.w4_defs.specs.declared.refusal.CartKind.{CartKind}
use Rattle.w4_defs.specs.declared.refusal.CartKind.TheVariants.{TooLarge, Malformed, Profile, Invalid}
use Rattle.w4_defs.specs.declared.refusal.ProfileRefusal.{ProfileRefusal}
use Rattle.w4_defs.specs.Module.{WasmModule}
use Rattle.w4_defs.specs.Profile.{profile_refusal}
use Rattle.w4_defs.specs.Validity.{IsFirstUntyped}
use Rattle.w4_defs.specs.Cart.{IsInvalid, IsRefused}
use Rattle.wasm_read.specs.Unique.{AtMostOneModule}
use Rattle.w4_defs.specs.World.{Files}
use Rattle.w4_defs.specs.declared.status.Refusal.{Refusal}
use Rattle.w4_defs.specs.declared.status.Refusal.TheVariants.{CartRefused, RecordingRefused, FontRefused}
use Rattle.w4_defs.specs.declared.status.Refusal.TheVariants.{ScriptRefused, ListRefused, FrameRefused}
use Rattle.w4_defs.specs.declared.status.Refusal.TheVariants.{ReadFault, InputFault, WriteFault, OutOfMemory}
use Rattle.w4_defs.specs.Commands.{Form, Check, Blank, Frames, Tones, Trace, Disk, Edit, Make, Net, Ram, Wave}
use Rattle.w4_defs.specs.Commands.{Batch, Serve, Units, Compare, Rebind, Inputs, BlankDisk}
use Rattle.w4_defs.specs.Live.{Talk}
use Rattle.w4_defs.specs.Output.{CartFile, Output, JudgedCart, reading}
use Rattle.w4_defs.specs.RecordingOutputs.{compare_output}
use Rattle.w4_defs.specs.Outputs.{OutputsAlone, OutputsOn, OverCart, OverFile, OverJudged, cart_word}
use Rattle.w4_defs.specs.OneOutput.{AtMostOneOutput}
use Rattle.w4_commands.proofs.LoadLaws.{never_both, no_profile}

-- the first function without a typing is one
first_ordered : (m : WasmModule) (f g : ℕ) → IsFirstUntyped m f → IsFirstUntyped m g
    → (f ≡ g) ⊎ ((f < g) ⊎ (g < f)) → f ≡ g
first_ordered m f g one other (inl same) = same
first_ordered m f g one other (inr (inl less)) = absurd (one.2 (other.1 f less))
first_ordered m f g one other (inr (inr more)) = absurd (other.2 (one.1 g more))

invalid_once : (m : WasmModule) (f g : Option ℕ) → IsInvalid m f → IsInvalid m g → f ≡ g
invalid_once m None None one other = refl
invalid_once m None (Some g) one other = absurd (one other.0)
invalid_once m (Some f) None one other = absurd (other one.0)
invalid_once m (Some f) (Some g) one other =
    ap (λ (k : ℕ). Some k) (first_ordered m f g one.1 other.1 (cases_order f g))

profile_once : (found : Option ProfileRefusal) (r s : ProfileRefusal) → found ≡ Some r → found ≡ Some s
    → r ≡ s
profile_once found r s one other = cc

refused_once : AtMostOneModule → (bytes : List ℕ) (k l : CartKind) → IsRefused bytes k → IsRefused bytes l
    → k ≡ l
refused_once unique bytes TooLarge TooLarge one other = refl
refused_once unique bytes TooLarge Malformed one other = absurd (let short = other.0 in omega arith)
refused_once unique bytes TooLarge (Profile s) one other = absurd (let short = other.0 in omega arith)
refused_once unique bytes TooLarge (Invalid g) one other = absurd (let short = other.0 in omega arith)
refused_once unique bytes Malformed TooLarge one other = absurd (let short = one.0 in omega arith)
refused_once unique bytes Malformed Malformed one other = refl
refused_once unique bytes Malformed (Profile s) one (short, n, spelled, some) = absurd (one.1 n spelled)
refused_once unique bytes Malformed (Invalid g) one (short, n, spelled, none, invalid) =
    absurd (one.1 n spelled)
refused_once unique bytes (Profile r) TooLarge one other = absurd (let short = one.0 in omega arith)
refused_once unique bytes (Profile r) Malformed (short, m, spelled, some) other = absurd (other.1 m spelled)
refused_once unique bytes (Profile r) (Profile s) (short, m, spelled, some) (brief, n, spelt, other) =
    ap (λ refusal. Profile refusal)
    (profile_once (profile_refusal n) r s
    (subst (λ x. profile_refusal x ≡ Some r) (unique bytes m n spelled spelt) some) other)
refused_once unique bytes (Profile r) (Invalid g) (short, m, spelled, some) (brief, n, spelt, none, invalid) =
    absurd
    (no_profile (profile_refusal n) r none
    (subst (λ x. profile_refusal x ≡ Some r) (unique bytes m n spelled spelt) some))
refused_once unique bytes (Invalid f) TooLarge one other = absurd (let short = one.0 in omega arith)
refused_once unique bytes (Invalid f) Malformed (short, m, spelled, none, invalid) other =
    absurd (other.1 m spelled)
refused_once unique bytes (Invalid f) (Profile s) (short, m, spelled, none, invalid) (brief, n, spelt, some) =
    absurd
    (no_profile (profile_refusal n) s
    (subst (λ x. profile_refusal x ≡ None) (unique bytes m n spelled spelt) none) some)
refused_once unique bytes (Invalid f) (Invalid g) (short, m, spelled, none, invalid)
    (brief, n, spelt, clear, other) =
    ap (λ func. Invalid func)
    (invalid_once n f g (subst (λ x. IsInvalid x f) (unique bytes m n spelled spelt) invalid) other)

-- a cart is its code and its digest
same_cart : (cart other : CartFile) → cart.code ≡ other.code → cart.digest ≡ other.digest → cart ≡ other
same_cart cart other code digest =
    ap (λ (m : WasmModule). record { code = m; digest = cart.digest }) code
    ∙ ap (λ (d : List ℕ). record { code = other.code; digest = d }) digest

-- bytes that were read are refused as a cart alone
refused_cart : (bytes : List ℕ) (why : Refusal) → JudgedCart (Ok bytes) (Err why)
    → (kind : CartKind) × (why ≡ CartRefused kind) × IsRefused bytes kind
refused_cart bytes (CartRefused kind) judged = (kind, refl, judged)
refused_cart bytes (RecordingRefused kind) judged = absurd judged
refused_cart bytes FontRefused judged = absurd judged
refused_cart bytes (ScriptRefused kind) judged = absurd judged
refused_cart bytes (ListRefused kind) judged = absurd judged
refused_cart bytes (FrameRefused number n) judged = absurd judged
refused_cart bytes ReadFault judged = absurd judged
refused_cart bytes InputFault judged = absurd judged
refused_cart bytes WriteFault judged = absurd judged
refused_cart bytes OutOfMemory judged = absurd judged

judged_once : AtMostOneModule → (found : Result (List ℕ) Refusal) (cart other : Result CartFile Refusal)
    → JudgedCart found cart → JudgedCart found other → cart ≡ other
judged_once unique (Err refusal) cart other one two = one ∙ sym two
judged_once unique (Ok bytes) (Ok cart) (Ok other) one two =
    ap (λ (c : CartFile). Ok c)
    (same_cart cart other (unique bytes cart.code other.code one.0.1 two.0.1) (one.1 ∙ sym two.1))
judged_once unique (Ok bytes) (Ok cart) (Err why) one two =
    let refused = refused_cart bytes why two in
    absurd (never_both unique bytes cart.code refused.0 one.0 refused.2)
judged_once unique (Ok bytes) (Err why) (Ok cart) one two =
    let refused = refused_cart bytes why one in
    absurd (never_both unique bytes cart.code refused.0 two.0 refused.2)
judged_once unique (Ok bytes) (Err why) (Err other) one two =
    let refused = refused_cart bytes why one in
    let again = refused_cart bytes other two in
    ap (λ (refusal : Refusal). Err refusal)
    (refused.1 ∙ ap CartRefused (refused_once unique bytes refused.0 again.0 refused.2 again.2) ∙ sym again.1)

abbrev Step : Type 1
Step = Files → Result Output Refusal → Type 0

-- what is made of the files is one thing
abbrev IsOnce : Step → Type 0
IsOnce step = (files : Files) (output other : Result Output Refusal) → step files output → step files other
    → output ≡ other

over_judged_once : (step : CartFile → Step) → ((cart : CartFile) → IsOnce (step cart)) → (files : Files)
    (cart : Result CartFile Refusal) (output other : Result Output Refusal)
    → OverJudged step files cart output → OverJudged step files cart other → output ≡ other
over_judged_once step once files (Ok cart) output other one two = once cart files output other one two
over_judged_once step once files (Err refusal) output other one two = one ∙ sym two

-- over a cart that is judged first, where what follows is one thing
over_cart_once : AtMostOneModule → (name : List ℕ) (step : CartFile → Step)
    → ((cart : CartFile) → IsOnce (step cart)) → IsOnce (OverCart name step)
over_cart_once unique name step once files output other (cart, judged, one) (again, rejudged, two) =
    over_judged_once step once files again output other
    (subst (λ c. OverJudged step files c output)
    (judged_once unique (reading files name 65537) cart again judged rejudged) one) two

there_once : (found : Option (Result Output Refusal)) (output other : Result Output Refusal)
    → found ≡ Some output → found ≡ Some other → output ≡ other
there_once found output other one two = cc

-- by a form that names a cart
on_once : AtMostOneModule → (form : Form) (talk : Talk) (cart : CartFile) → IsOnce (OutputsOn form talk cart)
on_once unique (Check name) talk cart files output other one two = cc
on_once unique (Blank name budget) talk cart files output other one two = cc
on_once unique (Frames words from to) talk cart files output other one two = cc
on_once unique (Tones words) talk cart files output other one two = cc
on_once unique (Trace words) talk cart files output other one two = cc
on_once unique (Disk words place) talk cart files output other one two = cc
on_once unique (Edit words) talk cart files output other one two = cc
on_once unique (Make number) talk cart files output other one two = cc
on_once unique (Net words) talk cart files output other one two = cc
on_once unique (Ram words query) talk cart files output other one two = cc
on_once unique (Wave words) talk cart files output other one two = cc
on_once unique (Batch words) talk cart files output other one two = cc
on_once unique (Serve words) talk cart files output other one two = cc
on_once unique (Units words) talk cart files output other one two = cc
on_once unique (Compare words) talk cart files output other one two =
    over_cart_once unique words.other_cart
    (λ second files output. compare_output words cart second files ≡ Some output)
    (λ second files output other one two.
    there_once (compare_output words cart second files) output other one two)
    files output other one two
on_once unique (Rebind name recording) talk cart files output other one two = cc
on_once unique (Inputs recording) talk cart files output other one two = cc
on_once unique (BlankDisk name budget disk) talk cart files output other one two = cc

-- by one that names none
alone_once : (form : Form) → IsOnce (OutputsAlone form)
alone_once (Check cart) files output other one two = absurd one
alone_once (Blank cart budget) files output other one two = absurd one
alone_once (Frames words from to) files output other one two = absurd one
alone_once (Tones words) files output other one two = absurd one
alone_once (Trace words) files output other one two = absurd one
alone_once (Disk words place) files output other one two = absurd one
alone_once (Edit words) files output other one two = absurd one
alone_once (Make number) files output other one two = cc
alone_once (Net words) files output other one two = absurd one
alone_once (Ram words query) files output other one two = absurd one
alone_once (Wave words) files output other one two = absurd one
alone_once (Batch words) files output other one two = absurd one
alone_once (Serve words) files output other one two = absurd one
alone_once (Units words) files output other one two = absurd one
alone_once (Compare words) files output other one two = absurd one
alone_once (Rebind cart recording) files output other one two = absurd one
alone_once (Inputs recording) files output other one two = cc
alone_once (BlankDisk cart budget disk) files output other one two = absurd one

over_once : AtMostOneModule → (word : Option (List ℕ)) (form : Form) (talk : Talk)
    → IsOnce (OverFile word form talk)
over_once unique None form talk files output other one two = alone_once form files output other one two
over_once unique (Some name) form talk files output other one two =
    over_cart_once unique name (OutputsOn form talk) (on_once unique form talk) files output other one two

pub one_output : AtMostOneModule → AtMostOneOutput
one_output unique form talk files output other one two =
    over_once unique (cart_word form) form talk files output other one two
