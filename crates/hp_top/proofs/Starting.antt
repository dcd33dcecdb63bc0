-- A machine before its first step, whose agents are those of a file's kinds and those that were handed in.
use Rattle.std.proofs.Common.{◌≡◌, ℕ, List, [], ◌∷◌, ◌++◌, length, map, replicate, Option, Some, None, refl, sym, ◌∙◌, ap, append_assoc}
use Rattle.hp_model.specs.declared.platforms.Platform.{Platform}
use Rattle.hp_model.specs.declared.accesses.Answer.{Answer}
use Rattle.hp_model.specs.declared.accesses.Answer.TheVariants.{Quiet}
use Rattle.hp_model.specs.declared.files.VoiceKind.{VoiceKind}
use Rattle.hp_model.specs.declared.files.VoiceKind.TheVariants as kind
use Rattle.hp_model.specs.Following.{voice_told}
use Rattle.hp_model.specs.Platform.{count_of}
use Rattle.hp_model.specs.State.{start}
use Rattle.hp_model.specs.Voices as model
use Rattle.hp_model.specs.Voices.{voice_of, with_handed, told_by}
use Rattle.hp_agent.specs.declared.kinds.Voice.{Voice}
use Rattle.hp_agent.specs.Kinds.{place_voice, place_voices}
use Rattle.hp_platform.specs.Live.{Live}
use Rattle.hp_top.specs.Handing.{first_for, rest_for}
use Rattle.hp_top.specs.Turns.{carried_start}
use Rattle.hp_top.specs.Lives.{StandsFor}

map-last : {X Y : Type 0} (f : X → Y) (xs : List X) (x : X) → map f (xs ++ x ∷ []) ≡ map f xs ++ f x ∷ []
map-last f [] x = refl
map-last {X} {Y} f (y ∷ ys) x = ap (λ (zs : List Y). f y ∷ zs) (map-last f ys x)

length-handed : {X : Type 0} (own : VoiceKind → X) (kinds : List VoiceKind) (handed : List X) → length (with_handed own kinds handed) ≡ length kinds
length-handed own [] handed = refl
length-handed own (kind.Script steps ∷ kinds) handed = rw (length-handed own kinds handed) refl
length-handed own (kind.Os ∷ kinds) handed = rw (length-handed own kinds handed) refl
length-handed own (kind.Pen ∷ kinds) handed = rw (length-handed own kinds handed) refl
length-handed own (kind.Seeded seed ∷ kinds) handed = rw (length-handed own kinds handed) refl
length-handed own (kind.Handed ∷ kinds) [] = rw (length-handed own kinds []) refl
length-handed own (kind.Handed ∷ kinds) (x ∷ handed) = rw (length-handed own kinds handed) refl

pub length-told : (p : Platform) (kinds : List VoiceKind) (handed : List (Option model.Voice)) → length (told_by p kinds handed) ≡ length kinds
length-told p kinds handed = length-handed (λ kind. Some (voice_of p kind)) kinds handed

-- what a processor's agent tells: the one that it was given, or one of its kind
abbrev pub tells_by : {A : Type 0} → (A → Option model.Voice) → Platform → VoiceKind → Option A → Option model.Voice
tells_by voice p k None = Some (voice_of p k)
tells_by voice p k (Some a) = voice a

told_next : {A : Type 0} (voice : A → Option model.Voice) (p : Platform) (k : VoiceKind) (kinds : List VoiceKind) (handed : List A) →
    told_by p (k ∷ kinds) (map voice handed) ≡ tells_by voice p k (first_for k handed) ∷ told_by p kinds (map voice (rest_for k handed))
told_next voice p (kind.Script steps) kinds handed = refl
told_next voice p kind.Os kinds handed = refl
told_next voice p kind.Pen kinds handed = refl
told_next voice p (kind.Seeded seed) kinds handed = refl
told_next voice p kind.Handed kinds [] = refl
told_next voice p kind.Handed kinds (a ∷ handed) = refl

-- an agent more
pub told_given : {A : Type 0} (voice : A → Option model.Voice) (p : Platform) (k : VoiceKind) (kinds : List VoiceKind) (handed rest : List A) (given : Option A) →
    given ≡ first_for k handed → rest ≡ rest_for k handed → told_by p (k ∷ kinds) (map voice handed) ≡ tells_by voice p k given ∷ told_by p kinds (map voice rest)
told_given {A} voice p k kinds handed rest given first left =
    told_next voice p k kinds handed
    ∙ ap (λ (o : Option A). tells_by voice p k o ∷ told_by p kinds (map voice (rest_for k handed))) (sym first)
    ∙ ap (λ (as' : List A). tells_by voice p k given ∷ told_by p kinds (map voice as')) (sym left)

pub told_more : {A : Type 0} (handed : A → Option model.Voice) (ps : List (Option (Voice A))) (place : Option (Voice A)) (told : Option model.Voice) (rest : List (Option model.Voice)) →
    place_voice handed place ≡ told → place_voices handed (ps ++ place ∷ []) ++ rest ≡ place_voices handed ps ++ told ∷ rest
told_more handed ps place told rest is =
    ap (λ (os : List (Option model.Voice)). os ++ rest) (map-last (place_voice handed) ps place)
    ∙ append_assoc (place_voices handed ps) (place_voice handed place ∷ []) rest
    ∙ ap (λ (o : Option model.Voice). place_voices handed ps ++ o ∷ rest) is

all_quiet : (told : List (Option model.Voice)) → replicate (length told) Quiet ≡ map {A = Option model.Voice} {B = Answer} (λ o. Quiet) told
all_quiet [] = refl
all_quiet (o ∷ told) = ap (λ (vs : List Answer). Quiet ∷ vs) (all_quiet told)

-- it stands for what is carried at the start
pub starts : (p : Platform) (told : List (Option model.Voice)) (live : Live) → live.platform ≡ p → live.state ≡ start p → live.voices ≡ told → live.last ≡ replicate (count_of p) Quiet →
    length told ≡ count_of p → StandsFor p live (carried_start p told)
starts p told live platform state voices last count = record {
  platform = platform;
  carries = record {
    state = state;
    voices = λ k v is. ap (λ (os : List (Option model.Voice)). voice_told os k) voices ∙ is;
    last = last ∙ ap (λ (n : ℕ). replicate n Quiet) (sym count) ∙ all_quiet told;
  };
}
