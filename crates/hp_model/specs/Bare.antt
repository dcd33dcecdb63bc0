-- A layout, who stands somewhere, and a monarch's record of which one thing alone matters: all else is nothing.
use Rattle.std.specs.Prelude.{ℕ, false, [], None}
use Rattle.hp_model.specs.declared.labels.Label.TheVariants.{S0}
use Rattle.hp_model.specs.Add.{add_of}
use Rattle.hp_model.specs.Collection.{collection_start}
use Rattle.hp_model.specs.Eject.{eject_of}
use Rattle.hp_model.specs.Handlers.{Seat}
use Rattle.hp_model.specs.Monarch.{Monarch, no_outcome}
use Rattle.hp_model.specs.SharedBytes.{Layout}

-- TSEG begins there
abbrev pub layout_at : ℕ → Layout
layout_at tseg = record { tseg = tseg; count = 0; apics = []; polls = 0; x2apic = false; late = false }

abbrev pub nobody : Seat
nobody = record { apic = 0; slot = 0; base = 0 }

abbrev pub bare_monarch : Monarch
bare_monarch =
    record {
      label = S0;
      slot = 0;
      polls = 0;
      slots = record { bound = []; known = []; held = None };
      last = [];
      features = 0;
      collection = collection_start;
      taken = 0;
      add = add_of 0 0 0;
      eject = eject_of 0 0 0;
      outcome = no_outcome;
    }
