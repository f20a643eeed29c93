-- The call that an entry names is the one that the rules have there: its entries, and the threads that are out after it.
use Rattle.std.proofs.Common.{◌≡◌, ℕ, ◌+◌, ◌<◌, ◌==◌, ◌||◌, Bool, true, false, cond, min, nat_lt, nat_le, List, [], ◌∷◌, set, ap, sym, subst, ◌∙◌, refl, arith, Option, Some, None}
use Rattle.std.specs.Prelude.{count_by, ◌⊎◌}
use mathlib.Core.Logic.{inl, inr}
use Rattle.std.proofs.lemmas.List.{map-set}
use Rattle.std.proofs.Math.ListN.{get_or-map}
use Rattle.std.proofs.lemmas.Bool.Decides.{nat_tests}
use Rattle.ak_trace.specs.declared.entry.Entry.{Entry}
use Rattle.ak_trace.specs.Kinds as kind
use Rattle.ak_trace.specs.declared.endings.End.{End}
use Rattle.flat_rules.specs.Machine.{Machine, cleared, sweep, Acted, Turned, looked, stepped, got, got_null, made_thread, refused_thread, found_busy, wants_room, rested, ended, trapped, passed_limit, lacked_stack}
use Rattle.flat_rules.specs.Entries.{home_entry}
use Rattle.flat_rules.specs.Draws.{after_draw}
use Rattle.flat_rules.specs.States.{RunState, Place, unbegun, home, out, gone, Mood, free, asked, must, place_at, at_home, waits_at, homes_of, is_due, is_wanted, none_out, pick}
use Rattle.flat_rules.specs.Events.{Event, Goes, on, back, away, goes, goes_out, goes_on, comes_home, out_event, picked_event, barrier_event, find_event, act_event, home_event, turn_event, turned_by, turned_state, place_after, places_after, ends_with, draw_asks, mood_after, most_local}
use Rattle.flat_rules.specs.Events as events
use Rattle.flat_rules.specs.Lawful.{IsFlat, Goes_on, is_for_room}
use Rattle.flat_rules.specs.Replays.{event_at}
use Rattle.flat_rules.specs.inner.Cases.{same_number}
use Rattle.world_rules.specs.declared.calls.Call.{Call}
use Rattle.world_rules.specs.declared.calls.Call.TheVariants as call
use Rattle.world_rules.specs.declared.calls.Found.{Found}
use Rattle.world_rules.specs.declared.calls.Found.TheVariants as found
use Rattle.world_rules.specs.declared.calls.Seat.{Seat}
use Rattle.world_rules.specs.Whole.{Whole, whole_of, seat_of}
use Rattle.world_rules.specs.Calls.{Result, acted_by, end_before, home_at, seat_at, as_it_goes, turns_more, seated, entries_of, after}
use Rattle.world_rules.specs.Calls as calls
use Rattle.world_rules.specs.Allowed.{IsOut, MovedOn, MayCall}
use Rattle.world_rules.proofs.Keeps.{Stands, counted, waits_more}
use Rattle.world_rules.proofs.Sits.{SitsAt, Sit, Moved, lives}
use Rattle.world_rules.proofs.MoveKeeps.{begins_lives}
use Rattle.world_rules.proofs.Invariant.{Invariant, picked, moved}
use Rattle.world_rules.proofs.CallsKeep.{going, waited}
use Rattle.flat_replay.specs.declared.driver.Hand.{Hand}
use Rattle.flat_replay.specs.declared.driver.Mood.{Mood as Told}
use Rattle.flat_replay.specs.declared.driver.Mood.TheVariants as mood
use Rattle.flat_replay.specs.inner.Hands.{Called, hand, hand_of, hands_of, hand_at, hand_acted, hands_found, mood_of, sought, steps_as, acted_on, homes_as, called}
use Rattle.flat_replay.specs.inner.Hands as driver

-- once asked home, a thread stays so
mood_same : (m : Mood) (b : Bool) → driver.mood_after (mood_of m) b ≡ mood_of (mood_after m b)
mood_same free true = refl
mood_same free false = refl
mood_same asked b = refl
mood_same must b = refl

capped : (k : ℕ) → nat_le 256 (min k 256) ≡ nat_le 256 k
capped k = grind (arith, nat_tests)

module _ {C : Type 0} where
  -- a barrier leaves those that are out
  still_out : (p : Place C) (o : Option C) → hand_of (place_after p o) ≡ hand_of p
  still_out (unbegun c) (Some d) = refl
  still_out (home c) (Some d) = refl
  still_out (out w c n m) (Some d) = refl
  still_out gone (Some d) = refl
  still_out (unbegun c) None = refl
  still_out (home c) None = refl
  still_out (out w c n m) None = refl
  still_out gone None = refl

  swept_hands : (ps : List (Place C)) (hs : List (Option C)) → hands_of (places_after ps hs) ≡ hands_of ps
  swept_hands [] hs = refl
  swept_hands (p ∷ ps) [] = refl
  swept_hands (p ∷ ps) (h ∷ hs) = λ i. still_out p h i ∷ swept_hands ps hs i

  -- what holds of a step's reply, by how the thread goes on
  by_goes : (t : ℕ) (a : Turned) (c : C) (asks : Bool) (R : Goes → Option (Hand C) → Type 0) (w : ℕ) (m : Mood)
      → (goes a ≡ on → R on (Some (hand w c (driver.mood_after (mood_of m) asks)))) → R back (Some (hand w c mood.Must)) → R away None → R (goes a) (hand_acted w (mood_of m) (acted_by (ends_with t a) a c asks))
  by_goes t looked c asks R w m p q r = p refl
  by_goes t stepped c asks R w m p q r = p refl
  by_goes t (got id place) c asks R w m p q r = p refl
  by_goes t got_null c asks R w m p q r = p refl
  by_goes t (made_thread number) c asks R w m p q r = p refl
  by_goes t refused_thread c asks R w m p q r = p refl
  by_goes t found_busy c asks R w m p q r = q
  by_goes t wants_room c asks R w m p q r = q
  by_goes t rested c asks R w m p q r = q
  by_goes t (ended value) c asks R w m p q r = by (ends_with t (ended value))
    where
      by : (o : Option End) → R away (hand_acted w (mood_of m) (acted_by o (ended value) c asks))
      by None = r
      by (Some end) = r
  by_goes t (trapped word kind) c asks R w m p q r = r
  by_goes t passed_limit c asks R w m p q r = r
  by_goes t lacked_stack c asks R w m p q r = r

module _ {S K C : Type 0} (machine : K → Machine S C) (first : Whole S K C) (SharedOf : S → Type 0) (ContextOf : C → Type 0) (flat : IsFlat (machine first.code) SharedOf ContextOf)
    (log : List Entry) (s : RunState S C) (stands : Stands machine first log s) (i : Invariant (machine first.code) SharedOf ContextOf first.settings s) (w : ℕ) (known : w < first.settings.workers) where
  abbrev m : Machine S C
  m = machine first.code

  abbrev pub X : Whole S K C
  X = whole_of machine first log s

  abbrev pub hs : List (Option (Hand C))
  hs = hands_of s.places

  -- a call of the worker that may be made, and the world after it
  pub record Makes (x' : Whole S K C) : Type 0 where
    pub call : Call C
    pub may : MayCall machine first log w call
    pub is : x' ≡ after machine X w call

  -- what is called is an event of the rules
  pub record Says (v : Event S C) (r : Called S K C) : Type 0 where
    pub call : Call C
    pub may : MayCall machine first log w call
    pub hands : List (Option (Hand C))
    pub is : r ≡ Some (after machine X w call, hands)
    pub entries : entries_of machine X w call ≡ v.entries
    pub hands_are : hands ≡ hands_of v.after.places

  there_hand : (t : ℕ) (p : Place C) → place_at s.places t ≡ p → hand_at hs t ≡ hand_of p
  there_hand t p at = get_or-map hand_of s.places t gone ∙ ap hand_of at

  -- ---- which call is made

  is_out : (t : ℕ) (d c : C) (n : ℕ) (mood : Mood) → m.thread_of d ≡ t → place_at s.places t ≡ out w c n mood → IsOut machine first log w (m.thread_of d) c mood
  is_out t d c n mood thread at = record { state = s; leads = stands.leads; turns = n; there = ap (λ (z : ℕ). place_at s.places z) thread ∙ at }

  module _ (before : end_before X ≡ None) where
    abbrev ends : s.ending ≡ None
    ends = going machine first SharedOf ContextOf flat log s stands i w known before

    abbrev sit : Sit m ContextOf s.shared None s.places
    sit = subst (λ (e : Option End). Sit m ContextOf s.shared e s.places) ends i.each

    -- ---- find

    record Tells (r : Result (Found C) S K C) (v : Event S C) : Type 0 where
      entries : r.1 ≡ v.entries
      hands_are : hands_found m w r.0 hs ≡ hands_of v.after.places

    abbrev AllTell : Result (Found C) S K C → Option (Event S C) → Type 0
    AllTell r o = (v : Event S C) → o ≡ Some v → Tells r v

    two_tell : (b : Bool) (r r' : Result (Found C) S K C) (o o' : Option (Event S C)) → (b ≡ true → AllTell r o) → (b ≡ false → AllTell r' o') → AllTell (cond b r r') (cond b o o')
    two_tell true r r' o o' p q = p refl
    two_tell false r r' o o' p q = q refl

    none_tells : (r : Result (Found C) S K C) → AllTell r None
    none_tells r v e = absurd (cc e)

    one_tells : (r : Result (Found C) S K C) (v : Event S C) → Tells r v → AllTell r (Some v)
    one_tells r v h v' e = let same : v ≡ v' = cc e in subst (Tells r) same h

    -- a thread goes out
    out_hands : (t : ℕ) (c : C) → m.thread_of c ≡ t → hands_found m w (found.Work c) hs ≡ hands_of (set s.places t (out w c 0 free))
    out_hands t c thread = ap (λ (z : ℕ). set hs z (Some (hand w c mood.Free))) thread ∙ sym (map-set hand_of s.places t (out w c 0 free))

    goes_tell : (t : ℕ) (c c' : C) → as_it_goes machine X (seat_at X.seats t) c ≡ c' → m.thread_of c' ≡ t → Tells (calls.hands machine X w t (Some c)) (goes_out m first.settings s w t c')
    goes_tell t c c' is thread = record { entries = refl; hands_are = ap (λ (z : C). hands_found m w (found.Work z) hs) is ∙ out_hands t c' thread }

    out_tells : is_wanted m first.settings s ≡ false → (t : ℕ) → pick m first.settings s ≡ Some t → (p : Place C) → place_at s.places t ≡ p → (o : Option C) → at_home p ≡ o → AllTell (calls.hands machine X w t o) (out_event m first.settings s w t p)
    out_tells calm t pick' (unbegun c) at None is = absurd (cc is)
    out_tells calm t pick' (home c) at None is = absurd (cc is)
    out_tells calm t pick' (out v c n mood) at o is = none_tells (calls.hands machine X w t o)
    out_tells calm t pick' gone at o is = none_tells (calls.hands machine X w t o)
    out_tells calm t pick' (unbegun c) at (Some d) is =
        let l = begins_lives m ContextOf SharedOf flat s.shared s.places i.of_ i.few sit t c at (picked m SharedOf ContextOf first.settings flat s i ends w t pick') in
        let h : SitsAt m ContextOf s.shared None t (unbegun c) = subst (SitsAt m ContextOf s.shared None t) at (sit t) in
        let e : c ≡ d = cc is in subst (λ (z : C). AllTell (calls.hands machine X w t (Some z)) (Some (goes_out m first.settings s w t (m.begin s.shared c)))) e
        (one_tells (calls.hands machine X w t (Some c)) (goes_out m first.settings s w t (m.begin s.shared c)) (goes_tell t c (m.begin s.shared c) (ap (λ (z : Seat). as_it_goes machine X z c) (get_or-map seat_of s.places t gone ∙ ap seat_of at)) ((flat.begins s.shared c l.0 l.1).thread ∙ h.0.thread)))
    out_tells calm t pick' (home c) at (Some d) is =
        let h : SitsAt m ContextOf s.shared None t (home c) = subst (SitsAt m ContextOf s.shared None t) at (sit t) in
        let e : c ≡ d = cc is in subst (λ (z : C). AllTell (calls.hands machine X w t (Some z)) (Some (goes_out m first.settings s w t c))) e
        (one_tells (calls.hands machine X w t (Some c)) (goes_out m first.settings s w t c) (goes_tell t c c (ap (λ (z : Seat). as_it_goes machine X z c) (get_or-map seat_of s.places t gone ∙ ap seat_of at)) h.0.thread))

    picks_tell : is_wanted m first.settings s ≡ false → (o : Option ℕ) → pick m first.settings s ≡ o → AllTell (calls.hands_out machine X w o) (picked_event m first.settings s w o)
    picks_tell calm None e = none_tells (calls.hands_out machine X w None)
    picks_tell calm (Some t) e = out_tells calm t e (place_at s.places t) refl (home_at X.homes t) (sym (get_or-map at_home s.places t gone))

    seeks_tell : AllTell (calls.seeks machine X w) (find_event m first.settings s w)
    seeks_tell = two_tell (is_wanted m first.settings s) _ _ _ _
        (λ want. two_tell (none_out m first.settings s) _ (found.Nothing, [], X) _ _
        (λ none. one_tells (calls.sweeps machine X w (cleared m first.settings.evacuates s.shared (homes_of s.places)).moved (sweep m first.settings.evacuates s.shared (homes_of s.places)))
        (barrier_event m first.settings s w (cleared m first.settings.evacuates s.shared (homes_of s.places)).moved (sweep m first.settings.evacuates s.shared (homes_of s.places)))
        (record { entries = refl; hands_are = sym (swept_hands s.places (sweep m first.settings.evacuates s.shared (homes_of s.places)).homes) }))
        (λ _. none_tells (found.Nothing, [], X)))
        (λ calm. picks_tell calm (pick m first.settings s) refl)

    finds_tell : AllTell (calls.finds machine X w) (find_event m first.settings s w)
    finds_tell = subst (λ (o : Option End). AllTell (calls.finds_by machine X w o) (find_event m first.settings s w)) (sym before) seeks_tell

    find_says : (v : Event S C) → find_event m first.settings s w ≡ Some v → Says v (sought machine X hs w)
    find_says v e = record { call = call.Find; may = tt; hands = _; is = refl; entries = (finds_tell v e).entries; hands_are = (finds_tell v e).hands_are }

    -- ---- act

    -- a step of a thread that is out, in its place
    module _ (t n : ℕ) (c d : C) (mood : Mood) (at : place_at s.places t ≡ out w c n mood) (moves : MovedOn machine first c mood d) (x : Moved m ContextOf t d) where
      abbrev a : Acted S C
      a = m.act s.shared d

      there : place_at s.places (m.thread_of d) ≡ out w c n mood
      there = ap (λ (z : ℕ). place_at s.places z) x.thread ∙ at

      abbrev k : ℕ
      k = turns_more (seat_at X.seats (m.thread_of d))

      -- the world asks the thread home where the replay does
      asks : goes a.turned ≡ on → calls.asks_home k (seated X (m.thread_of d) k a (goes a.turned)) ≡ events.is_called_home m first.settings s w (n + 1) (turned_state m first.settings s w (m.thread_of d) a (out w a.context (n + 1) mood))
      asks q = subst (λ (g : Goes). calls.asks_home k (seated X (m.thread_of d) k a g) ≡ events.is_called_home m first.settings s w (n + 1) (turned_state m first.settings s w (m.thread_of d) a (out w a.context (n + 1) mood))) (sym q)
          (λ j. ((nat_lt 0 (waiting j) || is_due first.settings.every (s.since + 1)) || turns j) || draw_asks first.settings.schedule (after_draw first.settings.schedule s.x))
        where
          stays : goes a.turned ≡ away → ⊥
          stays e = let z : on ≡ away = sym q ∙ e in absurd (cc z)

          goes_on' : Goes_on m ContextOf a d
          goes_on' = flat.goes_on s.shared d (lives m ContextOf SharedOf flat s.shared s.places i.of_ i.few sit w n c d mood there x.of_ x.progress) x.progress stays

          waiting : cond (is_for_room a.turned) (count_by (waits_at m) s.places + 1) (count_by (waits_at m) s.places) ≡ count_by (waits_at m) (set s.places (m.thread_of d) (out w a.context (n + 1) mood))
          waiting = waits_more machine first log s stands w known d c n mood there (out w a.context (n + 1) mood) (waited machine first SharedOf ContextOf flat log s stands i w known before d c n mood there moves) goes_on'.waits

          turns : nat_le 256 k ≡ nat_le 256 (n + 1)
          turns = ap (nat_le 256) (counted machine first log s stands w known d c n mood there) ∙ capped (n + 1)

      abbrev told : Bool
      told = calls.asks_home k (seated X (m.thread_of d) k a (goes a.turned))

      -- the thread after its step, by how it goes on
      abbrev Lies : Goes → Option (Hand C) → Type 0
      Lies g h = set hs (m.thread_of d) h ≡ hands_of (turned_by m first.settings s w (m.thread_of d) (n + 1) mood a g).places

      lies : Lies (goes a.turned) (hand_acted w (mood_of mood) (acted_by (ends_with (m.thread_of d) a.turned) a.turned a.context told))
      lies = by_goes (m.thread_of d) a.turned a.context told Lies w mood
          (λ q. ap (λ (b : Bool). set hs (m.thread_of d) (Some (hand w a.context (driver.mood_after (mood_of mood) b)))) (asks q)
          ∙ (ap (λ (z : Told). set hs (m.thread_of d) (Some (hand w a.context z))) (mood_same mood _) ∙ sym (map-set hand_of s.places (m.thread_of d) _)))
          (sym (map-set hand_of s.places (m.thread_of d) (out w a.context (n + 1) must)))
          (sym (map-set hand_of s.places (m.thread_of d) gone))

      act_says : Says (turn_event m first.settings s w t n mood a) (acted_on machine X hs w t (mood_of mood) d)
      act_says = record {
        call = call.Act d;
        may = (c, mood, is_out t d c n mood x.thread at, moves);
        hands = set hs t (hand_acted w (mood_of mood) (calls.acts machine X w d).0);
        is = refl;
        entries = ap (λ (o : Option End). (calls.acts_by machine X w o d).1) before ∙ ap (λ (z : ℕ). (turn_event m first.settings s w z n mood a).entries) x.thread;
        hands_are = ap (λ (o : Option End). set hs t (hand_acted w (mood_of mood) (calls.acts_by machine X w o d).0)) before
            ∙ subst (λ (z : ℕ). set hs z (hand_acted w (mood_of mood) (calls.steps machine X w d).0) ≡ hands_of (turn_event m first.settings s w z n mood a).after.places) x.thread lies;
      }

    -- one of the events is the one that is told
    says_one : (v : Event S C) (r : Called S K C) → Says v r → (v' : Event S C) → Some v ≡ Some v' → Says v' r
    says_one v r h v' e = let same : v ≡ v' = cc e in subst (λ (z : Event S C). Says z r) same h

    goes_says : (t n : ℕ) (c : C) (mood : Mood) → place_at s.places t ≡ out w c n mood → (v : Event S C) → goes_on m first.settings s w t c n mood ≡ Some v → Says v (steps_as machine X hs w t (mood_of mood) c)
    goes_says t n c free at v e = says_one _ _ (act_says t n c (m.local most_local c) free at refl (moved m SharedOf ContextOf first.settings flat s i ends w t n most_local c free at (inr refl))) v e
    goes_says t n c asked at v e = says_one _ _ (act_says t n c (m.local 0 c) asked at refl (moved m SharedOf ContextOf first.settings flat s i ends w t n 0 c asked at (inl refl))) v e
    goes_says t n c must at v e = absurd (cc e)

    -- ---- home

    home_thread : (t n : ℕ) (c : C) (mood : Mood) → place_at s.places t ≡ out w c n mood → m.thread_of c ≡ t
    home_thread t n c mood at = let h : SitsAt m ContextOf s.shared None t (out w c n mood) = subst (SitsAt m ContextOf s.shared None t) at (sit t) in h.0.thread

    comes_says : (t n : ℕ) (c : C) (mood : Mood) → place_at s.places t ≡ out w c n mood → (v : Event S C) → comes_home m first.settings s w t c mood ≡ Some v → Says v (homes_as machine X hs w t (mood_of mood) c)
    comes_says t n c free at v e = absurd (cc e)
    comes_says t n c asked at v e = absurd (cc e)
    comes_says t n c must at v e = says_one (record { entries = home_entry w t ∷ []; after = record s { places = set s.places t (home c) } }) _ (record {
      call = call.Home c;
      may = is_out t c c n must (home_thread t n c must at) at;
      hands = set hs t None;
      is = refl;
      entries = ap (λ (o : Option End). (calls.homes_by machine X w o c).1) before ∙ ap (λ (z : ℕ). home_entry w z ∷ []) (home_thread t n c must at);
      hands_are = sym (map-set hand_of s.places t (home c));
    }) v e

    -- ---- each kind

    -- of a thread that is out, with this worker or another
    by_worker : (v : ℕ) (P : Event S C → Called S K C → Type 0) (o : Option (Event S C)) (r : Called S K C) → ((v ≡ w) → (z : Event S C) → o ≡ Some z → P z r) → (z : Event S C) → cond (v == w) o None ≡ Some z → P z (cond (v == w) r None)
    by_worker v P o r p z e = at (v == w) refl e
      where
        at : (b : Bool) → (v == w) ≡ b → cond b o None ≡ Some z → P z (cond b r None)
        at true q e = p (same_number v w q) z e
        at false q e = absurd (cc e)

    act_told : (t : ℕ) (p : Place C) → place_at s.places t ≡ p → (v : Event S C) → act_event m first.settings s w t p ≡ Some v → Says v (driver.stepped machine X hs w t (hand_of p))
    act_told t (unbegun c) at v e = absurd (cc e)
    act_told t (home c) at v e = absurd (cc e)
    act_told t gone at v e = absurd (cc e)
    act_told t (out u c n mood) at v e = by_worker u Says (goes_on m first.settings s w t c n mood) (steps_as machine X hs w t (mood_of mood) c)
        (λ mine. goes_says t n c mood (subst (λ (z : ℕ). place_at s.places t ≡ out z c n mood) mine at)) v e

    home_told : (t : ℕ) (p : Place C) → place_at s.places t ≡ p → (v : Event S C) → home_event m first.settings s w t p ≡ Some v → Says v (driver.homed machine X hs w t (hand_of p))
    home_told t (unbegun c) at v e = absurd (cc e)
    home_told t (home c) at v e = absurd (cc e)
    home_told t gone at v e = absurd (cc e)
    home_told t (out u c n mood) at v e = by_worker u Says (comes_home m first.settings s w t c mood) (homes_as machine X hs w t (mood_of mood) c)
        (λ mine. comes_says t n c mood (subst (λ (z : ℕ). place_at s.places t ≡ out z c n mood) mine at)) v e

    two_say : (b : Bool) (o o' : Option (Event S C)) (r r' : Called S K C) → ((v : Event S C) → o ≡ Some v → Says v r) → ((v : Event S C) → o' ≡ Some v → Says v r') → (v : Event S C) → cond b o o' ≡ Some v → Says v (cond b r r')
    two_say true o o' r r' p q = p
    two_say false o o' r r' p q = q

    kinds_say : (k t : ℕ) (v : Event S C) → event_at m first.settings s k w t ≡ Some v → Says v (driver.called_as machine X hs w k t)
    kinds_say k t = two_say ((k == kind.out) || (k == kind.barrier)) _ _ _ _ find_says
        (two_say (k == kind.turn) _ _ _ _ (λ v e. subst (λ (h : Option (Hand C)). Says v (driver.stepped machine X hs w t h)) (sym (there_hand t (place_at s.places t) refl)) (act_told t (place_at s.places t) refl v e))
        (two_say (k == kind.home) _ None _ None (λ v e. subst (λ (h : Option (Hand C)). Says v (driver.homed machine X hs w t h)) (sym (there_hand t (place_at s.places t) refl)) (home_told t (place_at s.places t) refl v e))
        (λ v e. absurd (cc e))))

    -- an event of the rules is the call that its first entry names
    pub event_says : (k t : ℕ) (v : Event S C) → event_at m first.settings s k w t ≡ Some v → Says v (driver.called_by machine X hs w k t)
    event_says k t v e = subst (λ (b : Bool). Says v (cond b (driver.called_as machine X hs w k t) None)) (let z : true ≡ nat_lt w first.settings.workers = grind (arith, nat_tests) in z) (kinds_say k t v e)

  -- ---- a call that is made may be

  abbrev AllMake : Called S K C → Type 0
  AllMake r = (x' : Whole S K C) (h : List (Option (Hand C))) → r ≡ Some (x', h) → Makes x'

  one_makes : (y : Whole S K C) (h : List (Option (Hand C))) → Makes y → AllMake (Some (y, h))
  one_makes y h makes x' h' e =
      let mine : Whole S K C × List (Option (Hand C)) = (y, h) in let given : Whole S K C × List (Option (Hand C)) = (x', h') in let same : mine ≡ given = cc e in
      subst Makes (ap (λ (z : Whole S K C × List (Option (Hand C))). z.0) same) makes

  none_makes : AllMake None
  none_makes x' h e = absurd (cc e)

  two_make : (b : Bool) (r r' : Called S K C) → (b ≡ true → AllMake r) → AllMake r' → AllMake (cond b r r')
  two_make true r r' p q = p refl
  two_make false r r' p q = q

  lies_there : (t n : ℕ) (c : C) (mood : Mood) → place_at s.places t ≡ out w c n mood → SitsAt m ContextOf s.shared s.ending t (out w c n mood)
  lies_there t n c mood at = subst (SitsAt m ContextOf s.shared s.ending t) at (i.each t)

  makes_on : (t n k : ℕ) (c : C) (mood : Mood) → (k ≡ 0) ⊎ (k ≡ most_local) → place_at s.places t ≡ out w c n mood → MovedOn machine first c mood (m.local k c) → AllMake (acted_on machine X hs w t (mood_of mood) (m.local k c))
  makes_on t n k c mood bound at moves =
      let h = lies_there t n c mood at in
      one_makes _ _ (record { call = call.Act (m.local k c); may = (c, mood, is_out t (m.local k c) c n mood ((flat.works k c h.0.of_ bound h.0.progress).thread ∙ h.0.thread) at, moves); is = refl })

  steps_make : (t n : ℕ) (c : C) (mood : Mood) → place_at s.places t ≡ out w c n mood → AllMake (steps_as machine X hs w t (mood_of mood) c)
  steps_make t n c free at = makes_on t n most_local c free (inr refl) at refl
  steps_make t n c asked at = makes_on t n 0 c asked (inl refl) at refl
  steps_make t n c must at = none_makes

  homes_make : (t n : ℕ) (c : C) (mood : Mood) → place_at s.places t ≡ out w c n mood → AllMake (homes_as machine X hs w t (mood_of mood) c)
  homes_make t n c free at = none_makes
  homes_make t n c asked at = none_makes
  homes_make t n c must at = one_makes _ _ (record { call = call.Home c; may = is_out t c c n must (lies_there t n c must at).0.thread at; is = refl })

  act_makes : (t : ℕ) (p : Place C) → place_at s.places t ≡ p → AllMake (driver.stepped machine X hs w t (hand_of p))
  act_makes t (unbegun c) at = none_makes
  act_makes t (home c) at = none_makes
  act_makes t gone at = none_makes
  act_makes t (out u c n mood) at = two_make (u == w) _ None (λ mine. steps_make t n c mood (subst (λ (z : ℕ). place_at s.places t ≡ out z c n mood) (same_number u w mine) at)) none_makes

  home_makes : (t : ℕ) (p : Place C) → place_at s.places t ≡ p → AllMake (driver.homed machine X hs w t (hand_of p))
  home_makes t (unbegun c) at = none_makes
  home_makes t (home c) at = none_makes
  home_makes t gone at = none_makes
  home_makes t (out u c n mood) at = two_make (u == w) _ None (λ mine. homes_make t n c mood (subst (λ (z : ℕ). place_at s.places t ≡ out z c n mood) (same_number u w mine) at)) none_makes

  -- what is called is a call that the worker may make
  pub called_makes : (k t : ℕ) → AllMake (driver.called_by machine X hs w k t)
  called_makes k t = two_make (nat_lt w first.settings.workers) _ None (λ _. two_make ((k == kind.out) || (k == kind.barrier)) _ _ (λ _. one_makes _ _ (record { call = call.Find; may = tt; is = refl }))
      (two_make (k == kind.turn) _ _ (λ _. subst (λ (h : Option (Hand C)). AllMake (driver.stepped machine X hs w t h)) (sym (there_hand t (place_at s.places t) refl)) (act_makes t (place_at s.places t) refl))
      (two_make (k == kind.home) _ None (λ _. subst (λ (h : Option (Hand C)). AllMake (driver.homed machine X hs w t h)) (sym (there_hand t (place_at s.places t) refl)) (home_makes t (place_at s.places t) refl)) none_makes))) none_makes
