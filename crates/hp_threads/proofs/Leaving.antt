-- Where all turns were made, what is kept is what a call leaves.
use Rattle.std.proofs.Common.{◌≡◌, ◌≤◌, ◌<◌, ◌⊎◌, inl, inr, ℕ, ◌+◌, ◌-◌, ◌^◌, true, List, [], ◌++◌, length, drop, get_or, Option, Some, None, is_some, refl, sym, ap, subst, ◌∙◌, arith}
use Rattle.std.specs.Prelude.{slice_get, slice_index_or, All, option_map}
use Rattle.std.proofs.lemmas.Option.{get_or_from_slice_get, none-some, same_Some, slice_get-map}
use Rattle.std.proofs.lemmas.List.{append-nil, length-append, length-map, drop_at, take_all}
use Rattle.std.proofs.lemmas.Grind.{get_or_default_zero}
use Rattle.std.proofs.Math.Nat.{zero-div}
use Rattle.hp_model.specs.declared.platforms.Platform.{Platform}
use Rattle.hp_model.specs.declared.platforms.Delivery.{Delivery}
use Rattle.hp_model.specs.declared.platforms.Delivery.TheVariants.{Prompt, Late}
use Rattle.hp_model.specs.declared.entries.Actor.{Actor}
use Rattle.hp_model.specs.declared.entries.Actor.TheVariants.{Cpu, Smi}
use Rattle.hp_model.specs.declared.entries.Entry.{Entry}
use Rattle.hp_model.specs.declared.files.HostEvent.{HostEvent}
use Rattle.hp_model.specs.Boot.{is_handed}
use Rattle.hp_model.specs.Following.{Follows, follows, carried_all}
use Rattle.hp_model.specs.Hosting.{IsHosted, is_host}
use Rattle.hp_model.specs.Platform.{count_of, is_late}
use Rattle.hp_model.specs.Runs.{run}
use Rattle.hp_model.specs.State.{State}
use Rattle.hp_model.proofs.FitPlatforms.{apic_few}
use Rattle.hp_platform.specs.World.{IsSound, World, idle_place_of, turns_of}
use Rattle.hp_threads.specs.Leaving.{IsLeft, added}
use Rattle.hp_threads.specs.Running.{IsKept, IsReady, host_actors}
use Rattle.hp_threads.specs.Shares.{share, smi_share}
use Rattle.hp_threads.specs.Sharing.{HadNone, IsOfProcessor, KeepsShare, owned_by}
use Rattle.hp_threads.specs.Voicing.{IsCarried, carried_from}
use Rattle.hp_threads.proofs.Counting.{IsAt, cpu_of, turns_cpu}
use Rattle.hp_threads.proofs.Lists.{get_within}

-- a possible processor's place has 4 bytes
pub few_cpus : (w : World) → IsSound w → count_of w.platform < 2 ^ 32
few_cpus w sound = let few = apic_few w.platform sound.fit in omega (arith, few)

-- nothing carried yet
nothing_carried : (p : Platform) (s : State) (w : World) → run p w.entries ≡ Some s → IsCarried p (carried_all p (carried_from w s) []) w
unfolding carried_all
nothing_carried p s w is = record { run = is; voices = λ k v told. told; last = refl }

handed_first : (p : Platform) (s : State) (w : World) → is_handed s.stage ≡ true → is_handed (carried_all p (carried_from w s) []).state.stage ≡ true
unfolding carried_all
handed_first p s w is = is

follows_first : (p : Platform) (s : State) (w : World) → Follows p (carried_from w s) []
unfolding follows
follows_first p s w = refl

-- no turns, no share
no_share : (d : Delivery) → (0 - smi_share d 0 ≡ 0) × (smi_share d 0 ≡ 0)
no_share Prompt = (refl, refl)
no_share (Late lag) = (omega arith, zero-div (lag + 1))

-- what stands at entry is kept
pub kept_entry : (entry : World) (turns : ℕ) (hosts : List HostEvent) → IsReady entry turns hosts → IsSound entry → IsKept entry turns hosts (record { world = entry; marks = [] })
kept_entry entry turns hosts ready sound = by (run entry.platform entry.entries) refl
  where
    nothing : (i m : ℕ) → slice_get [] i ≡ Some m → ⊥
    nothing i m at = cc

    past : (n : ℕ) (e : Entry) → length entry.entries ≤ n → slice_get entry.entries n ≡ Some e → ⊥
    past n e since at = omega (arith, since, get_within entry.entries n e at)

    keeps : (a : Actor) → share entry.platform.delivery a 0 ≡ 0 → KeepsShare entry entry [] a 0
    keeps a none = record { most = omega arith; fewer = λ less. absurd (omega (arith, none, less)) }

    kept_in : (s : State) → run entry.platform entry.entries ≡ Some s → IsKept entry turns hosts (record { world = entry; marks = [] })
    kept_in s is = record {
      ready = ready;
      state = s;
      added = [];
      start = is;
      places = sound.noted.counts;
      platform = refl;
      entries = sym (append-nil entry.entries);
      handed = handed_first entry.platform s entry (ready.handed s is);
      cpus = λ k inside. record {
        rose = 0;
        asked = omega arith;
        within = omega arith;
        own = keeps (Cpu k) (no_share entry.platform.delivery).0;
        smi = keeps (Smi k) (no_share entry.platform.delivery).1;
      };
      host = omega arith;
      marked = omega arith;
      follows = follows_first entry.platform s entry;
      carried = nothing_carried entry.platform s entry is;
      hosted = record {
        many = refl;
        within = λ i m at. absurd (nothing i m at);
        rise = λ i j m n less at too. absurd (nothing i m at);
        made = λ i m a s x at ho is its stp. absurd (nothing i m at);
        only = λ n e since at is. absurd (past n e since at);
      };
    }

    by : (o : Option State) → run entry.platform entry.entries ≡ o → IsKept entry turns hosts (record { world = entry; marks = [] })
    by None is = let no : is_some (run entry.platform entry.entries) ≡ true = sound.run in absurd cc
    by (Some s) is = kept_in s is

module _ (entry w : World) (turns : ℕ) (hosts : List HostEvent) (marks : List ℕ) (kept : IsKept entry turns hosts (record { world = w; marks = marks })) (sound : IsSound w)
    (cpus : (k : ℕ) → k < count_of entry.platform → slice_index_or w.asked k 0 ≡ slice_index_or entry.asked k 0 + turns) (all : length marks ≡ length hosts) where
  behind : added entry w ≡ kept.added
  behind = ap (drop (length entry.entries)) kept.entries ∙ drop_at entry.entries kept.added (length entry.entries) refl

  sound_at : IsSound (record w { platform = entry.platform })
  sound_at = subst (λ (q : Platform). IsSound (record w { platform = q })) kept.platform sound

  rose_is : (k : ℕ) (inside : k < count_of entry.platform) → (kept.cpus k inside).rose ≡ turns
  rose_is k inside = omega (arith, (kept.cpus k inside).asked, cpus k inside)

  -- the share of each actor of a processor
  its_share : (a : Actor) → IsAt (count_of entry.platform) a → KeepsShare entry w kept.added a turns
  its_share a at = by at.is
    where
      share_at : KeepsShare entry w kept.added (Cpu at.cpu) turns × KeepsShare entry w kept.added (Smi at.cpu) turns
      share_at =
          subst (λ (n : ℕ). KeepsShare entry w kept.added (Cpu at.cpu) n × KeepsShare entry w kept.added (Smi at.cpu) n) (rose_is at.cpu at.within)
          ((kept.cpus at.cpu at.within).own, (kept.cpus at.cpu at.within).smi)

      by : (a ≡ Cpu at.cpu) ⊎ (a ≡ Smi at.cpu) → KeepsShare entry w kept.added a turns
      by (inl is) = subst (λ (b : Actor). KeepsShare entry w kept.added b turns) (sym is) share_at.0
      by (inr is) = subst (λ (b : Actor). KeepsShare entry w kept.added b turns) (sym is) share_at.1

  keeps : (a : Actor) → IsOfProcessor entry.platform a → KeepsShare entry w kept.added a turns
  keeps a has = by (idle_place_of entry.platform a) refl
    where
      by : (o : Option ℕ) → idle_place_of entry.platform a ≡ o → KeepsShare entry w kept.added a turns
      by None is = let no : is_some (idle_place_of entry.platform a) ≡ true = has in absurd cc
      by (Some place) is = its_share a (cpu_of (is_late entry.platform.delivery) (count_of entry.platform) a place is)

  few : (a : Actor) → IsOfProcessor entry.platform a → owned_by entry.platform a (added entry w) < share entry.platform.delivery a turns →
      HadNone entry.platform w.entries (length entry.entries) a
  few a has less =
      let idle = (keeps a has).fewer (omega (arith, less, ap (owned_by entry.platform a) behind)) in
      let was = sound_at.noted.was a idle.place idle.after idle.is_place idle.idle in
      record { after = idle.after; since = idle.since; within = was.within; none = was.none }

  pub left : IsLeft entry turns hosts w marks
  left = record {
    platform = kept.platform;
    entries = kept.entries ∙ ap (λ (es : List Entry). entry.entries ++ es) (sym behind);
    asked = cpus;
    host = kept.host ∙ ap (λ (n : ℕ). slice_index_or entry.asked (count_of entry.platform) 0 + n) all;
    most = λ a has. let most = (keeps a has).most in omega (arith, ap (owned_by entry.platform a) behind, most);
    fewer = few;
    follows = λ s is. subst (λ (t : State). Follows entry.platform (carried_from entry t) (added entry w)) (same_Some kept.state s (sym kept.start ∙ is))
        (subst (λ (es : List Entry). Follows entry.platform (carried_from entry kept.state) es) (sym behind) kept.follows);
    carried = λ s is. subst (λ (t : State). IsCarried entry.platform (carried_all entry.platform (carried_from entry t) (added entry w)) w) (same_Some kept.state s (sym kept.start ∙ is))
        (subst (λ (es : List Entry). IsCarried entry.platform (carried_all entry.platform (carried_from entry kept.state) es) w) (sym behind) kept.carried);
    hosted = subst (λ (bs : List Actor). IsHosted entry.platform w.entries (length entry.entries) bs marks)
        (take_all (length marks) (host_actors hosts) (omega (arith, all, length-map hosts (λ (h : HostEvent). h.actor)))) kept.hosted;
  }

-- how many entries there are
pub many_more : (entry w : World) (turns : ℕ) (hosts : List HostEvent) (marks : List ℕ) → IsKept entry turns hosts (record { world = w; marks = marks }) → (now before : List Entry) → now ≡ w.entries → before ≡ entry.entries →
    length now ≡ length before + length (added entry w)
many_more entry w turns hosts marks kept now before is was =
    ap length (is ∙ kept.entries) ∙ length-append entry.entries kept.added
    ∙ ap (λ (n : ℕ). n + length kept.added) (sym (ap length was))
    ∙ ap (λ (es : List Entry). length before + length es) (sym (ap (drop (length entry.entries)) kept.entries ∙ drop_at entry.entries kept.added (length entry.entries) refl))

-- what a processor's number of turns is read by
pub record IsRead (entry w : World) (turns : ℕ) (olds : List ℕ) (k : ℕ) : Type 0 where
  pub place : k < length olds
  pub asked : turns_of (count_of w.platform) (Cpu k) w.asked ≡ slice_index_or w.asked k 0
  pub before : slice_index_or olds k 0 ≡ slice_index_or entry.asked k 0
  pub rose : ℕ
  pub rises : slice_index_or w.asked k 0 ≡ slice_index_or entry.asked k 0 + rose
  pub within : rose ≤ turns
  pub few : rose < 2 ^ 32

pub read_of : (entry w : World) (turns : ℕ) (hosts : List HostEvent) (marks before : List ℕ) (k : ℕ) → IsKept entry turns hosts (record { world = w; marks = marks }) → before ≡ entry.asked → k < count_of entry.platform → IsRead entry w turns before k
read_of entry w turns hosts marks before k kept is inside =
    let share = kept.cpus k inside in
    record {
      place = omega (arith, ap length is, kept.places, inside);
      asked = turns_cpu (count_of w.platform) k w.asked (omega (arith, inside, ap count_of kept.platform));
      before = ap (λ (ns : List ℕ). slice_index_or ns k 0) is;
      rose = share.rose;
      rises = share.asked;
      within = share.within;
      few = omega (arith, share.within, kept.ready.few);
    }

-- the number of turns that is read, and the one before it
pub record IsTaken (entry w : World) (turns now before k : ℕ) : Type 0 where
  pub rose : ℕ
  pub now_is : now ≡ before + rose
  pub before_is : before ≡ slice_index_or entry.asked k 0
  pub asked : slice_index_or w.asked k 0 ≡ slice_index_or entry.asked k 0 + rose
  pub within : rose ≤ turns
  pub few : rose < 2 ^ 32

pub taken_of : (entry w : World) (turns : ℕ) (olds : List ℕ) (now before k : ℕ) → IsRead entry w turns olds k → now ≡ turns_of (count_of w.platform) (Cpu k) w.asked → before ≡ get_or olds k before → IsTaken entry w turns now before k
taken_of entry w turns olds now before k r is at =
    let old : before ≡ slice_index_or entry.asked k 0 = at ∙ get_or_default_zero olds k before r.place ∙ r.before in
    let new : now ≡ slice_index_or entry.asked k 0 + r.rose = is ∙ r.asked ∙ r.rises in
    record { rose = r.rose; now_is = omega (arith, old, new); before_is = old; asked = r.rises; within = r.within; few = r.few }

pub hosts_are : (hosts : List HostEvent) → All (λ h. is_host h.actor ≡ true) hosts → (i : ℕ) (a : Actor) → slice_get (host_actors hosts) i ≡ Some a → is_host a ≡ true
hosts_are hosts all i a at = by (slice_get hosts i) refl
  where
    by : (o : Option HostEvent) → slice_get hosts i ≡ o → is_host a ≡ true
    by None none = absurd (none-some a (sym (slice_get-map (λ (h : HostEvent). h.actor) hosts i ∙ ap (option_map (λ (h : HostEvent). h.actor)) none) ∙ at))
    by (Some h) some =
        let same : h.actor ≡ a = same_Some h.actor a (sym (slice_get-map (λ (h : HostEvent). h.actor) hosts i ∙ ap (option_map (λ (h : HostEvent). h.actor)) some) ∙ at) in
        let its : is_host h.actor ≡ true = ap (λ (x : HostEvent). is_host x.actor) (sym (get_or_from_slice_get hosts i h h some)) ∙ all i h (get_within hosts i h some) in
        ap is_host (sym same) ∙ its
