-- Steps on files, one after another: why the first or a later one stopped, and what they gave. A cart's file:
-- it wasn't read, or its bytes are a cart, or none, and never both.
use Rattle.std.proofs.Common.{◌≡◌, ℕ, ◌+◌, inl, inr, List, Option, Result, Ok, Err, refl, sym, ◌∙◌, Some}
use Rattle.std.proofs.Common.{None, subst, arith}
use Rattle.std.specs.Option.{ForSome}
use Rattle.w4_defs.specs.World.{Files, World, LeavesReading}
use Rattle.w4_house.proofs.WorldLaws.{rises_later}
use Rattle.w4_defs.specs.declared.status.Refusal.{Refusal}
use Rattle.w4_defs.specs.Endings.{Manner, ReadFailed, InputFailed, WriteFailed, MemoryRefused, Refused}
use Rattle.w4_defs.specs.Endings.{manner_of}
use Rattle.w4_defs.specs.Output.{◌>>=◌, reading, judged, CartFile, CartIn}
use Rattle.w4_commands.specs.Load.{GivesRefusal, GivesValue, ResultsIn, Stops, StepGives}
use Rattle.w4_defs.specs.declared.refusal.CartKind.{CartKind}
use Rattle.sha2.specs.Sha256.{sha256}
use Rattle.w4_defs.specs.Cart.{IsCart, IsRefused, IsInvalid}
use Rattle.w4_defs.specs.declared.status.Refusal.TheVariants.{CartRefused}
use Rattle.w4_defs.specs.Causes.{StepRefuses}
use Rattle.w4_defs.specs.declared.refusal.CartKind.TheVariants.{TooLarge, Malformed, Profile, Invalid}
use Rattle.w4_defs.specs.declared.refusal.ProfileRefusal.{ProfileRefusal}
use Rattle.w4_defs.specs.Module.{WasmModule}
use Rattle.w4_defs.specs.Profile.{profile_refusal}
use Rattle.w4_defs.specs.Validity.{IsValid}
use Rattle.wasm_read.specs.Unique.{AtMostOneModule}
use Rattle.w4_cart.specs.Refusal.{cart_refusal}
use Rattle.w4_cart.specs.declared.refusal.CartRefusal.{CartRefusal}
use Rattle.w4_cart.specs.declared.refusal.CartRefusal.TheVariants.{Kind, OutOfMemory}

-- what stops a step stops what begins with it
pub stops_first : {A B : Type 0} (old new : World) (why : Manner) (step : Files → Result A Refusal)
    (next : Files → A → Result B Refusal)
    → Stops old new why (ResultsIn step) → Stops old new why (ResultsIn (λ files. step files >>= next files))
stops_first old new InputFailed step next h = h
stops_first old new ReadFailed step next (inl rise) = inl rise
stops_first old new ReadFailed step next (inr (files, texts, e)) = inr (files, texts, rw e refl)
stops_first old new WriteFailed step next h = h
stops_first old new MemoryRefused step next h = tt
stops_first old new (Refused refusal) step next h = λ files texts. rw (h files texts) refl

-- what stops a later step stops what went before it
pub stops_later : {A B : Type 0} (first second third : World) (why : Manner) (step : Files → Result A Refusal)
    (x : A) (next : Files → A → Result B Refusal)
    → LeavesReading first second → ForSome first.files (λ files. step files ≡ Ok x)
    → Stops second third why (ResultsIn (λ files. next files x))
    → Stops first third why (ResultsIn (λ files. step files >>= next files))
stops_later first second third InputFailed step x next leaves given h = h
stops_later first second third ReadFailed step x next leaves given (inl rise) =
    inl (rises_later first.read_faults second.read_faults third.read_faults leaves.later rise)
stops_later first second third ReadFailed step x next leaves given (inr (files, texts, e)) =
    inr (files, sym leaves.files ∙ texts, rw (given files (sym leaves.files ∙ texts)) e)
stops_later first second third WriteFailed step x next leaves given h = h
stops_later first second third MemoryRefused step x next leaves given h = tt
stops_later first second third (Refused refusal) step x next leaves given h =
    λ files texts. rw (given files texts) (h files (leaves.files ∙ texts))

-- a file that was read and then found wrong
pub unread_stops : {Y : Type 0} (old new : World) (why : Manner) (judge : List ℕ → Result Y Refusal)
    (limit : ℕ)
    (name bytes : List ℕ)
    → ForSome old.files (λ files. reading files name (limit + 1) ≡ Ok bytes)
    → GivesRefusal why (judge bytes)
    → Stops old new why (ResultsIn (λ files. judged limit judge files name))
unread_stops old new InputFailed judge limit name bytes given h = absurd h
unread_stops old new ReadFailed judge limit name bytes given h = absurd h
unread_stops old new WriteFailed judge limit name bytes given h = absurd h
unread_stops old new MemoryRefused judge limit name bytes given h = tt
unread_stops old new (Refused refusal) judge limit name bytes given h =
    λ files texts. rw (given files texts) h

-- a file that was read and then judged
pub judged_by : {X Y : Type 0} (old new : World) (view : X → Y) (result : Result X Refusal)
    (judge : List ℕ → Result Y Refusal) (limit : ℕ) (name bytes : List ℕ)
    → ForSome old.files (λ files. reading files name (limit + 1) ≡ Ok bytes)
    → GivesValue view result (judge bytes)
    → StepGives old new view result (ResultsIn (λ files. judged limit judge files name))
judged_by old new view (Ok x) judge limit name bytes given h = λ files texts. rw (given files texts) h
judged_by old new view (Err why) judge limit name bytes given h =
    unread_stops old new (manner_of why) judge limit name bytes given h

pub cart_unread : (old new : World) (why : Manner) (name : List ℕ)
    → Stops old new why (ResultsIn (λ files. reading files name 65537))
    → Stops old new why (λ files cart. CartIn name files cart)
cart_unread old new InputFailed name h = h
cart_unread old new ReadFailed name (inl rise) = inl rise
cart_unread old new ReadFailed name (inr (files, texts, none)) = inr (files, texts, rw none refl)
cart_unread old new WriteFailed name h = h
cart_unread old new MemoryRefused name h = tt
cart_unread old new (Refused refusal) name h = λ files texts. rw (h files texts) refl

pub cart_given : (old : World) (name bytes : List ℕ) (cart : CartFile)
    → ForSome old.files (λ files. reading files name 65537 ≡ Ok bytes) → IsCart bytes cart.code
    → cart.digest ≡ sha256 bytes
    → ForSome old.files (λ files. CartIn name files (Ok cart))
cart_given old name bytes cart given is digest = λ files texts. rw (given files texts) (is, digest)

pub cart_file_refused : (old : World) (name bytes : List ℕ) (kind : CartKind)
    → ForSome old.files (λ files. reading files name 65537 ≡ Ok bytes) → IsRefused bytes kind
    → StepRefuses old (CartRefused kind) (λ files cart. CartIn name files cart)
cart_file_refused old name bytes kind given refused = λ files texts. rw (given files texts) refused

pub cart_stopped : (old new : World) (name bytes : List ℕ) (why : CartRefusal)
    → ForSome old.files (λ files. reading files name 65537 ≡ Ok bytes)
    → ((kind : CartKind) → why ≡ Kind kind → IsRefused bytes kind)
    → Stops old new (manner_of (cart_refusal why)) (λ files cart. CartIn name files cart)
cart_stopped old new name bytes (Kind kind) given refused =
    cart_file_refused old name bytes kind given (refused kind refl)
cart_stopped old new name bytes OutOfMemory given refused = tt

no_invalid : (m : WasmModule) (f : Option ℕ) → IsValid m → IsInvalid m f → ⊥
no_invalid m None valid invalid = invalid valid.0
no_invalid m (Some f) valid invalid = invalid.1.2 (valid.1 f invalid.1.0)

pub no_profile : (found : Option ProfileRefusal) (r : ProfileRefusal) → found ≡ None → found ≡ Some r → ⊥
no_profile found r none some = cc

-- no bytes are both
pub never_both : AtMostOneModule → (bytes : List ℕ) (m : WasmModule) (kind : CartKind) → IsCart bytes m
    → IsRefused bytes kind → ⊥
never_both unique bytes m TooLarge cart refused = let short = cart.0 in omega arith
never_both unique bytes m Malformed cart refused = refused.1 m cart.1
never_both unique bytes m (Profile r) cart (short, n, spelled, some) =
    no_profile (profile_refusal n) r
    (subst (λ x. profile_refusal x ≡ None) (unique bytes m n cart.1 spelled) cart.2) some
never_both unique bytes m (Invalid f) cart (short, n, spelled, none, invalid) =
    no_invalid n f (subst (λ x. IsValid x) (unique bytes m n cart.1 spelled) cart.3) invalid
