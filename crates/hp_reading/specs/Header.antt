-- The grammar of a trace's header (own rules), and the platform that it names.
use Rattle.std.specs.Prelude.{◌≡◌, ℕ, zero, suc, Bool, true, false, List, [], ◌∷◌, ◌++◌, codes, Option, Some, None, option_map, option_and_then}
use Rattle.hp_model.specs.declared.platforms.Platform.{Platform}
use Rattle.hp_model.specs.declared.platforms.Delivery.{Delivery}
use Rattle.hp_model.specs.declared.platforms.Delivery.TheVariants.{Prompt, Late}
use Rattle.hp_model.specs.Platform.{first_broken, IsFit}
use Rattle.hp_model.specs.Text.{line_of, head_text}
use Rattle.hp_reading.specs.declared.headers.Sizes.{Sizes}
use Rattle.hp_reading.specs.declared.headers.Counts.{Counts}
use Rattle.hp_reading.specs.declared.headers.Kinds.{Kinds}
use Rattle.hp_reading.specs.Forms.{past, hex_front, decimal_front}
use Rattle.hp_reading.specs.Lines.{most32, most64, row, only}

-- at most so many decimal numbers with a comma between two, behind those that were read; and what follows them
unfoldable pub numbers_onto : ℕ → List ℕ → List ℕ → Option (List ℕ × List ℕ)
numbers_onto zero made text = None
numbers_onto (suc n) made text =
    option_and_then (λ p. row (past (codes ",") p.1) (λ rest. numbers_onto n (made ++ p.0 ∷ []) rest) (Some (made ++ p.0 ∷ [], p.1))) (decimal_front most32 text)

-- a platform has no more processors
abbrev pub most_numbers : ℕ
most_numbers = 512

-- behind a word: numbers, a hexadecimal number of so many digits, a decimal number, a truth value
unfoldable pub numbers_after : List ℕ → List ℕ → Option (List ℕ × List ℕ)
numbers_after word text = option_and_then (λ rest. numbers_onto most_numbers [] rest) (past word text)

unfoldable pub hex_after : List ℕ → ℕ → List ℕ → Option (ℕ × List ℕ)
hex_after word digits text = option_and_then (λ rest. hex_front digits rest) (past word text)

unfoldable pub decimal_after : List ℕ → ℕ → List ℕ → Option (ℕ × List ℕ)
decimal_after word most text = option_and_then (λ rest. decimal_front most rest) (past word text)

abbrev pub truth_front : List ℕ → Option (Bool × List ℕ)
truth_front text = row (past (codes "true") text) (λ rest. Some (true, rest)) (row (past (codes "false") text) (λ rest. Some (false, rest)) None)

unfoldable pub truth_after : List ℕ → List ℕ → Option (Bool × List ℕ)
truth_after word text = option_and_then (λ rest. truth_front rest) (past word text)

-- what is in the header only where it isn't as it was
abbrev pub ext_by : List ℕ → Option (List ℕ) → Bool × List ℕ
ext_by text None = (true, text)
ext_by text (Some rest) = (false, rest)

unfoldable pub ext_front : List ℕ → Bool × List ℕ
ext_front text = ext_by text (past (codes " ext=false") text)

unfoldable pub x2apic_of : List ℕ → Option Bool
x2apic_of text = row (past (codes " x2apic=true") text) (only true) (only false text)

unfoldable pub delivery_front : List ℕ → Option (Delivery × List ℕ)
delivery_front text =
    row (past (codes " delivery=prompt") text) (λ rest. Some (Prompt, rest))
    (option_map (λ p. (Late p.0, p.1)) (decimal_after (codes " delivery=late lag=") most32 text))

-- the parts of the header behind the processors
unfoldable pub sizes_front : List ℕ → Option (Sizes × List ℕ)
sizes_front text =
    option_and_then (λ low. option_map (λ tseg. (record { low_memory = low.0; tseg_mib = tseg.0; ext_tseg = (ext_front tseg.1).0 }, (ext_front tseg.1).1))
    (decimal_after (codes " tseg=") most32 low.1)) (hex_after (codes " low=") 8 text)

unfoldable pub counts_front : List ℕ → Option (Counts × List ℕ)
counts_front text =
    option_and_then (λ features. option_and_then (λ polls. option_map (λ turns. (record { features = features.0; polls = polls.0; turns = turns.0 }, turns.1))
    (decimal_after (codes " turns=") most32 polls.1)) (decimal_after (codes " polls=") most32 features.1)) (decimal_after (codes " features=") most64 text)

unfoldable pub kinds_of : List ℕ → Option Kinds
kinds_of text =
    option_and_then (λ modern. option_and_then (λ smram. option_and_then (λ delivery. option_map
    (λ x2apic. record { modern = modern.0; default_smram = smram.0; delivery = delivery.0; x2apic = x2apic })
    (x2apic_of delivery.1)) (delivery_front smram.1)) (truth_after (codes " smram=") modern.1)) (truth_after (codes " modern=") text)

abbrev pub platform_of : List ℕ → List ℕ → Sizes → Counts → Kinds → Platform
platform_of apic boot sizes counts kinds =
    record {
      apic = apic;
      boot = boot;
      low_memory = sizes.low_memory;
      tseg_mib = sizes.tseg_mib;
      features = counts.features;
      polls = counts.polls;
      turns = counts.turns;
      modern = kinds.modern;
      default_smram = kinds.default_smram;
      delivery = kinds.delivery;
      x2apic = kinds.x2apic;
      ext_tseg = sizes.ext_tseg;
    }

unfoldable pub behind_ids : List ℕ → List ℕ → List ℕ → Option Platform
behind_ids apic boot text =
    option_and_then (λ sizes. option_and_then (λ counts. option_map (λ kinds. platform_of apic boot sizes.0 counts.0 kinds)
    (kinds_of counts.1)) (counts_front sizes.1)) (sizes_front text)

-- the platform that a header names, fitting or not
unfoldable pub named_by : List ℕ → Option Platform
named_by text =
    option_and_then (λ apic. option_and_then (λ boot. behind_ids apic.0 boot.0 boot.1) (numbers_after (codes " boot=") apic.1)) (numbers_after (codes "platform apic=") text)

-- a platform that meets its rules
abbrev pub fitting : Platform → Option ℕ → Option Platform
fitting p None = Some p
fitting p (Some rule) = None

-- the platform whose header the text is, None where it is no header of one that fits
unfoldable pub head_of : List ℕ → Option Platform
head_of text = option_and_then (λ p. fitting p (first_broken p)) (named_by text)

-- the text and a line feed are the header of a platform that fits
pub record IsHeader (text : List ℕ) (p : Platform) : Type 0 where
  pub fit : IsFit p
  pub spelled : line_of text ≡ head_text p
