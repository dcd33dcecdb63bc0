-- Voices: what a processor says outside SMM, as plain data (own rules).
use Rattle.std.specs.Prelude.{◌≡◌, ℕ, Bool, true, false, ◌&&◌, ◌||◌, not, ◌==◌, ◌+◌, nat_lt, List, [], ◌∷◌, length, map, Option, Some, None, bit_and, if◌then◌else◌}
use Rattle.rand_pcg.specs.Lcg.{Lcg}
use Rattle.hp_model.specs.declared.accesses.Access.{Access}
use Rattle.hp_model.specs.declared.accesses.Access.TheVariants.{Store, In, Out, Halt}
use Rattle.hp_model.specs.declared.accesses.Answer.{Answer}
use Rattle.hp_model.specs.declared.platforms.Platform.{Platform}
use Rattle.hp_model.specs.declared.files.VoiceKind.{VoiceKind}
use Rattle.hp_model.specs.declared.files.VoiceKind.TheVariants.{Script, Os, Pen, Seeded, Handed}
use Rattle.hp_model.specs.declared.files.File.{File}
use Rattle.hp_model.specs.Attacks.{once_more, storm_access, flood_access, digger_access, churn_access}
use Rattle.hp_model.specs.Block.{cut}
use Rattle.hp_model.specs.Boot.{value_in}
use Rattle.hp_model.specs.OsProgram.{OsPoint, polls, polled, scans, selected, commanded, looked, judged, acts, with_insert_of, with_removal_of, to_do}
use Rattle.hp_model.specs.Platform.{high_half}
use Rattle.hp_model.specs.Seeded.{generator_of, draw, drawn_access}

-- a kind of voice with what it still holds
pub data Voice : Type 0 where
  script : List Access → Voice  -- the steps that are left, and halts after them
  pen : Bool → Voice  -- whether it has stored its byte
  os : List ℕ → OsPoint → Voice  -- by place, the high half of an interrupt command to each processor, and where the program stands
  seeded : Lcg → Voice  -- the generator of its words
  storm : ℕ → ℕ → Voice  -- for so many processors; of this one and of those below, how often it was asked
  flood : ℕ → ℕ → Voice  -- against an APIC ID
  digger : ℕ → Voice
  churn : ℕ → ℕ → Voice  -- against a processor

-- what a voice is asked: which processor, at which page, and the answer to its last asked access
pub record Question : Type 0 where
  pub cpu : ℕ
  pub page : ℕ
  pub last : Answer

-- the access that a voice says, and what is left of it
pub record Said : Type 0 where
  pub access : Access
  pub voice : Voice

-- a voice that has nothing left to say
abbrev pub silent : Voice
silent = script []

-- the page where new processors wait for the operating system, and the byte there that they store
abbrev pub pen_page : ℕ
pen_page = 0x9f

abbrev pub pen_store : Access
pen_store = Store 0x9f010 1 1

-- a pen stores its byte the first time that it is asked at its page, and halts else
abbrev pub pen_says : Bool → ℕ → Said
pen_says stored page =
    if not stored && (page == pen_page) then record { access = pen_store; voice = pen true }
    else record { access = Halt; voice = pen stored }

-- the operating system looks for events
abbrev pub looking : List ℕ → Said
looking halves = record { access = In 0x620 1; voice = os halves polled }

-- it does what is left to do, and then looks for events again
abbrev pub doing : List ℕ → List Access → Said
doing halves [] = looking halves
doing halves (a ∷ as') = record { access = a; voice = os halves (acts as') }

-- bit 2 of the GPE status tells of a processor event: it is cleared, and a scan begins
abbrev pub hearing : List ℕ → ℕ → Said
hearing halves status = if bit_and status 4 == 4 then record { access = Out 0x620 1 4; voice = os halves (scans 0 [] []) } else looking halves

abbrev pub selecting : List ℕ → ℕ → List ℕ → List ℕ → Said
selecting halves cpu inserts removals = record { access = Out 0xcd8 4 cpu; voice = os halves (selected cpu inserts removals) }

-- its scan goes on at a processor, and is over past the last
abbrev pub scanning : List ℕ → ℕ → List ℕ → List ℕ → Said
scanning halves cpu inserts removals =
    if nat_lt cpu (length halves) then selecting halves cpu inserts removals else doing halves (to_do halves inserts removals)

-- the selector has gone on to the next processor with an event: there is none where it is below, as it began anew, or names none
abbrev pub finding : List ℕ → ℕ → ℕ → List ℕ → List ℕ → Said
finding halves cpu next inserts removals =
    if nat_lt next cpu || not (nat_lt next (length halves)) then doing halves (to_do halves inserts removals)
    else record { access = In 0xcdc 1; voice = os halves (judged next inserts removals) }

-- where v is the value of its last answer, of which it takes the low bits of the width that it asked
abbrev pub os_says : List ℕ → OsPoint → ℕ → Said
os_says halves polls v = looking halves
os_says halves polled v = hearing halves (cut 1 v)
os_says halves (scans cpu inserts removals) v = selecting halves cpu inserts removals
os_says halves (selected cpu inserts removals) v = record { access = Out 0xcdd 1 0; voice = os halves (commanded cpu inserts removals) }
os_says halves (commanded cpu inserts removals) v = record { access = In 0xce0 4; voice = os halves (looked cpu inserts removals) }
os_says halves (looked cpu inserts removals) v = finding halves cpu (cut 4 v) inserts removals
os_says halves (judged cpu inserts removals) v =
    scanning halves (cpu + 1) (with_insert_of cpu (cut 1 v) inserts) (with_removal_of cpu (cut 1 v) removals)
os_says halves (acts as') v = doing halves as'

unfoldable pub says : Voice → Question → Said
says (script []) q = record { access = Halt; voice = silent }
says (script (a ∷ as')) q = record { access = a; voice = script as' }
says (pen stored) q = pen_says stored q.page
says (os halves place) q = os_says halves place (value_in q.last)
says (seeded g) q = record { access = drawn_access (draw g).0; voice = seeded (draw g).1 }
says (storm count i) q = record { access = storm_access count i; voice = storm count (once_more i) }
says (flood apic i) q = record { access = flood_access apic i; voice = flood apic (once_more i) }
says (digger i) q = record { access = digger_access i; voice = digger (once_more i) }
says (churn cpu i) q = record { access = churn_access cpu i; voice = churn cpu (once_more i) }

-- the voice of a kind on a platform. A processor whose agent is to be handed in halts where none is.
abbrev pub voice_of : Platform → VoiceKind → Voice
voice_of p (Script steps) = script steps
voice_of p Os = os (map (high_half p.x2apic) p.apic) polls
voice_of p Pen = pen false
voice_of p (Seeded seed) = seeded (generator_of seed)
voice_of p Handed = silent

-- What processors of these kinds have: each what its kind has, but the first of kind handed the first of what was handed in, and so on. A processor for
-- which nothing is left has what its kind has, and what no processor is left for is dropped.
abbrev pub with_handed : {X : Type 0} → (VoiceKind → X) → List VoiceKind → List X → List X
with_handed own [] handed = []
with_handed own (Script steps ∷ kinds) handed = own (Script steps) ∷ with_handed own kinds handed
with_handed own (Os ∷ kinds) handed = own Os ∷ with_handed own kinds handed
with_handed own (Pen ∷ kinds) handed = own Pen ∷ with_handed own kinds handed
with_handed own (Seeded seed ∷ kinds) handed = own (Seeded seed) ∷ with_handed own kinds handed
with_handed own (Handed ∷ kinds) [] = own Handed ∷ with_handed own kinds []
with_handed own (Handed ∷ kinds) (x ∷ handed) = x ∷ with_handed own kinds handed

-- the voices of a file's processors, where these were handed in
abbrev pub voices_of : File → List Voice → List Voice
voices_of f handed = with_handed (voice_of f.platform) f.voices handed

-- what the agents of processors of these kinds tell, where some were handed in that tell this: one of a kind tells the kind's voice
abbrev pub told_by : Platform → List VoiceKind → List (Option Voice) → List (Option Voice)
told_by p kinds handed = with_handed (λ kind. Some (voice_of p kind)) kinds handed

-- and those of a file's processors
abbrev pub told_of : File → List (Option Voice) → List (Option Voice)
told_of f handed = told_by f.platform f.voices handed

abbrev pub is_script : Voice → Bool
is_script (script steps) = true
is_script (pen stored) = false
is_script (os halves place) = false
is_script (seeded g) = false
is_script (storm count i) = false
is_script (flood apic i) = false
is_script (digger i) = false
is_script (churn cpu i) = false

-- A voice that a place may have: the one that it tells. Where it tells none it is some script: these say any accesses, one after the other.
abbrev pub MayHave : Option Voice → Voice → Type 0
MayHave None v = is_script v ≡ true
MayHave (Some told) v = v ≡ told

-- voices that agree with what the places tell, one a place
abbrev pub Agree : List (Option Voice) → List Voice → Type 0
Agree [] [] = Unit {0}
Agree [] (v ∷ vs) = ⊥
Agree (told ∷ places) [] = ⊥
Agree (told ∷ places) (v ∷ vs) = MayHave told v × Agree places vs
