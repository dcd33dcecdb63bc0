-- A host event of a file that is read is an insert or a remove.
use Rattle.std.proofs.Common.{◌≡◌, ℕ, Bool, true, false, List, [], ◌∷◌, Option, Some, None, if◌then◌else◌, codes, option_map, option_and_then, refl, subst}
use Rattle.std.proofs.lemmas.Option.{same_Some}
use Rattle.toml.specs.Data.{Data, Items, no_items, item, Members, get_member, as_array, as_table}
use Rattle.hp_model.specs.declared.entries.Actor.{Actor}
use Rattle.hp_model.specs.declared.entries.Actor.TheVariants.{Insert, Remove}
use Rattle.hp_model.specs.declared.files.HostEvent.{HostEvent}
use Rattle.hp_model.specs.declared.files.Stall.{Stall}
use Rattle.hp_model.specs.Hosting.{is_host}
use Rattle.hp_config.specs.declared.keys.Form.TheVariants as form
use Rattle.hp_config.specs.declared.parts.AgentRow.{AgentRow}
use Rattle.hp_config.specs.declared.parts.Machine.{Machine}
use Rattle.hp_config.specs.declared.parts.Parts.{Parts}
use Rattle.hp_config.specs.Keys.{knows, has_only}
use Rattle.hp_config.specs.Rows.{actor_of, agent_of, host_of, in_table, stall_of}
use Rattle.hp_config.specs.Rules.{hosts_are_hosts}
use Rattle.hp_config.specs.Shape.{machine_in, parts_of}
use Rattle.hp_config.specs.Tree.{all_in, given, rows_in, u32_at, u32_in}

made_is : (make : ℕ → Actor) → ((k : ℕ) → is_host (make k) ≡ true) → (o : Option ℕ) (a : Actor) → option_map make o ≡ Some a → is_host a ≡ true
made_is make all None a e = cc
made_is make all (Some k) a e = subst (λ (b : Actor). is_host b ≡ true) (same_Some (make k) a e) (all k)

actor_is : (x y : Option Data) (a : Actor) → actor_of x y ≡ Some a → is_host a ≡ true
actor_is (Some d) None a e = made_is Insert (λ k. refl) (u32_in d) a e
actor_is None (Some d) a e = made_is Remove (λ k. refl) (u32_in d) a e
actor_is None None a e = cc
actor_is (Some d) (Some c) a e = cc

event_is : (ms : Members) (h : HostEvent) → host_of ms ≡ Some h → is_host h.actor ≡ true
unfolding host_of
event_is ms h e = by (has_only (knows form.Host) ms) (u32_at (codes "turn") ms) (actor_of (get_member (codes "insert") ms) (get_member (codes "remove") ms)) refl e
  where
    by : (b : Bool) (t : Option ℕ) (o : Option Actor) → actor_of (get_member (codes "insert") ms) (get_member (codes "remove") ms) ≡ o →
        (if b then given t (λ turn. given o (λ actor. Some (record { turn = turn; actor = actor }))) else None) ≡ Some h → is_host h.actor ≡ true
    by false t o is e = cc
    by true None o is e = cc
    by true (Some turn) None is e = cc
    by true (Some turn) (Some a) is e =
        subst (λ (g : HostEvent). is_host g.actor ≡ true) (same_Some (record { turn = turn; actor = a }) h e)
        (actor_is (get_member (codes "insert") ms) (get_member (codes "remove") ms) a is)

row_is : (d : Data) (h : HostEvent) → in_table host_of d ≡ Some h → is_host h.actor ≡ true
row_is d h e = by (as_table d) e
  where
    by : (o : Option Members) → option_and_then host_of o ≡ Some h → is_host h.actor ≡ true
    by None e = cc
    by (Some ms) e = event_is ms h e

items_are : (ds : Items) (hs : List HostEvent) → all_in (in_table host_of) ds ≡ Some hs → hosts_are_hosts hs ≡ true
items_are no_items hs e = subst (λ (gs : List HostEvent). hosts_are_hosts gs ≡ true) (same_Some [] hs e) refl
items_are (item d ds) hs e = by (λ gs rest. items_are ds gs rest) (in_table host_of d) refl (all_in (in_table host_of) ds) refl e
  where
    by : ((gs : List HostEvent) → all_in (in_table host_of) ds ≡ Some gs → hosts_are_hosts gs ≡ true) → (o : Option HostEvent) → in_table host_of d ≡ o → (r : Option (List HostEvent)) → all_in (in_table host_of) ds ≡ r →
        option_and_then (λ x. option_map (λ xs. x ∷ xs) r) o ≡ Some hs → hosts_are_hosts hs ≡ true
    by others None one r rest e = cc
    by others (Some h) one None rest e = cc
    by others (Some h) one (Some gs) rest e =
        subst (λ (fs : List HostEvent). hosts_are_hosts fs ≡ true) (same_Some (h ∷ gs) hs e) (rw (row_is d h one, others gs rest) refl)

rows_are : (o : Option Data) (hs : List HostEvent) → rows_in (in_table host_of) o ≡ Some hs → hosts_are_hosts hs ≡ true
rows_are None hs e = subst (λ (gs : List HostEvent). hosts_are_hosts gs ≡ true) (same_Some [] hs e) refl
rows_are (Some d) hs e = by (as_array d) e
  where
    by : (o : Option Items) → option_and_then (all_in (in_table host_of)) o ≡ Some hs → hosts_are_hosts hs ≡ true
    by None e = cc
    by (Some ds) e = items_are ds hs e

pub hosts_are : (ms : Members) (parts : Parts) → parts_of ms ≡ Some parts → hosts_are_hosts parts.hosts ≡ true
unfolding parts_of
hosts_are ms parts e =
    by (has_only (knows form.Whole) ms) (machine_in (get_member (codes "platform") ms)) (rows_in (in_table host_of) (get_member (codes "host") ms)) refl
    (rows_in (in_table stall_of) (get_member (codes "stall") ms)) (rows_in (in_table agent_of) (get_member (codes "agent") ms)) e
  where
    by : (b : Bool) (m : Option Machine) (hs : Option (List HostEvent)) → rows_in (in_table host_of) (get_member (codes "host") ms) ≡ hs → (ss : Option (List Stall)) (as' : Option (List AgentRow)) →
        (if b then
        given m (λ machine. given hs (λ hosts. given ss (λ stalls. given as' (λ agents. Some (record { machine = machine; hosts = hosts; stalls = stalls; agents = agents })))))
        else None) ≡ Some parts → hosts_are_hosts parts.hosts ≡ true
    by false m hs is ss as' e = cc
    by true None hs is ss as' e = cc
    by true (Some m) None is ss as' e = cc
    by true (Some m) (Some hs) is None as' e = cc
    by true (Some m) (Some hs) is (Some ss) None e = cc
    by true (Some m) (Some hs) is (Some ss) (Some as') e =
        subst (λ (ps : Parts). hosts_are_hosts ps.hosts ≡ true) (same_Some (record { machine = m; hosts = hs; stalls = ss; agents = as' }) parts e)
        (rows_are (get_member (codes "host") ms) hs is)
