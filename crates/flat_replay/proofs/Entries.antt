-- What entries tell: the turns that were made, those that were tried, and the ids that were handed out.
use Rattle.std.proofs.Common.{◌≡◌, ℕ, zero, suc, ◌+◌, ◌==◌, ◌&&◌, true, List, [], ◌∷◌, ◌++◌, length, map, replicate, refl, sym, ap, ◌∙◌, arith, append_assoc}
use Rattle.std.proofs.lemmas.Bool.{and_parts}
use Rattle.std.proofs.lemmas.Grind.{flat_map-append}
use Rattle.std.proofs.lemmas.List.{append-nil, length-append, length-map, map-append}
use Rattle.ak_trace.specs.declared.entry.Entry.{Entry}
use Rattle.ak_trace.specs.declared.order.Answer as journal
use Rattle.ak_trace.specs.declared.order.Answer.TheVariants as journal_answers
use Rattle.ak_trace.specs.Order.{order, step_answers, turns_of}
use Rattle.block_store.specs.declared.values.Answer.TheVariants as answers
use Rattle.block_store.specs.Runs.{Pick}
use Rattle.flat_meaning.specs.Accesses as chosen
use Rattle.flat_meaning.specs.Accesses.{Choice, plain, null, wait}
use Rattle.flat_meaning.specs.Events.{Serve}
use Rattle.flat_meaning.specs.Journals.{journal_picks, told}
use Rattle.flat_meaning.specs.Order.{choice_answer, pick}
use Rattle.flat_meaning.specs.Start.{chosen_id, served_ids}
use Rattle.flat_rules.specs.Entries.{how_of, served_entry, served_with, turn_entry}
use Rattle.flat_rules.specs.Machine.{Turned, looked, stepped, got, got_null, made_thread, refused_thread, found_busy, wants_room, rested, ended, trapped, passed_limit, lacked_stack}
use Rattle.flat_rules.specs.Replays.{same_entry}
use Rattle.flat_rules.specs.inner.Cases.{same_number}
use Rattle.flat_machine.specs.Sweeping.{object_got, served_of}
use Rattle.flat_replay.specs.Attempts.{attempts_at, attempts_from}
use Rattle.flat_replay.specs.Ids.{entry_ids, ids_told}

-- entries with the same fields
pub same_is : (a b : Entry) → same_entry a b ≡ true → a ≡ b
same_is a b h =
    let p = and_parts ((a.kind == b.kind && a.worker == b.worker) && (a.thread == b.thread && a.how == b.how)) ((a.local == b.local && a.zero == b.zero) && (a.id == b.id && a.place == b.place)) h in
    let q = and_parts (a.kind == b.kind && a.worker == b.worker) (a.thread == b.thread && a.how == b.how) p.0 in
    let r = and_parts (a.local == b.local && a.zero == b.zero) (a.id == b.id && a.place == b.place) p.1 in
    let kinds = and_parts (a.kind == b.kind) (a.worker == b.worker) q.0 in
    let threads = and_parts (a.thread == b.thread) (a.how == b.how) q.1 in
    let locals = and_parts (a.local == b.local) (a.zero == b.zero) r.0 in
    let ids = and_parts (a.id == b.id) (a.place == b.place) r.1 in
    λ i. record {
      kind = same_number a.kind b.kind kinds.0 i;
      worker = same_number a.worker b.worker kinds.1 i;
      thread = same_number a.thread b.thread threads.0 i;
      how = same_number a.how b.how threads.1 i;
      local = same_number a.local b.local locals.0 i;
      zero = same_number a.zero b.zero locals.1 i;
      id = same_number a.id b.id ids.0 i;
      place = same_number a.place b.place ids.1 i;
    }

-- ---- one part behind the other

abbrev told_pick : ℕ × journal.Answer → Pick
told_pick turn = pick turn.0 (told turn.1)

pub picks-append : (log es : List Entry) → journal_picks (log ++ es) ≡ journal_picks log ++ journal_picks es
picks-append log es = ap (map told_pick) (flat_map-append turns_of log es) ∙ map-append told_pick (order log) (order es)

pub length-picks : (log : List Entry) → length (journal_picks log) ≡ length (order log)
length-picks log = length-map (order log) told_pick

pub attempts-append : (log es : List Entry) (turns : ℕ) → attempts_from turns (log ++ es) ≡ attempts_from turns log ++ attempts_from (turns + length (order log)) es
attempts-append [] es turns = let same : turns ≡ turns + 0 = omega arith in ap (λ (n : ℕ). attempts_from n es) same
attempts-append (e ∷ log) es turns =
    let mid : ℕ = turns + length (turns_of e) in
    let same : mid + length (order log) ≡ turns + length (turns_of e ++ order log) = omega (arith, length-append (turns_of e) (order log)) in
    ap (λ (as' : List (ℕ × ℕ)). attempts_at turns e ++ as') (attempts-append log es mid ∙ ap (λ (n : ℕ). attempts_from mid log ++ attempts_from n es) same)
    ∙ sym (append_assoc (attempts_at turns e) (attempts_from mid log) (attempts_from (turns + length (turns_of e ++ order log)) es))

pub ids-append : (log es : List Entry) → ids_told (log ++ es) ≡ ids_told log ++ ids_told es
ids-append log es = flat_map-append entry_ids log es

-- ---- a turn

-- the turn that its step makes
abbrev pub turned_picks : (thread : ℕ) → Turned → List Pick
turned_picks t looked = []
turned_picks t stepped = pick t answers.Plain ∷ []
turned_picks t (got id place) = pick t answers.Got ∷ []
turned_picks t got_null = pick t answers.None ∷ []
turned_picks t (made_thread number) = pick t answers.Got ∷ []
turned_picks t refused_thread = pick t answers.None ∷ []
turned_picks t found_busy = []
turned_picks t wants_room = []
turned_picks t rested = []
turned_picks t (ended value) = pick t answers.Plain ∷ []
turned_picks t (trapped word kind) = []
turned_picks t passed_limit = []
turned_picks t lacked_stack = []

-- the id that it hands out
abbrev pub turned_ids : Turned → List ℕ
turned_ids (got id place) = id ∷ []
turned_ids turned = []

-- and that which it tries
abbrev pub turned_tries : (thread : ℕ) → Turned → (position : ℕ) → List (ℕ × ℕ)
turned_tries t found_busy position = (t, position) ∷ []
turned_tries t (trapped word kind) position = (t, position) ∷ []
turned_tries t passed_limit position = (t, position) ∷ []
turned_tries t lacked_stack position = (t, position) ∷ []
turned_tries t turned position = []

map-replicate : (n t : ℕ) → map told_pick (replicate n (t, journal_answers.Plain)) ≡ replicate n (pick t answers.Plain)
map-replicate zero t = refl
map-replicate (suc n) t = ap (λ (ps : List Pick). pick t answers.Plain ∷ ps) (map-replicate n t)

step_picks_are : (t : ℕ) (turned : Turned) → map told_pick (map (λ answer. (t, answer)) (step_answers (how_of turned))) ≡ turned_picks t turned
step_picks_are t looked = refl
step_picks_are t stepped = refl
step_picks_are t (got id place) = refl
step_picks_are t got_null = refl
step_picks_are t (made_thread number) = refl
step_picks_are t refused_thread = refl
step_picks_are t found_busy = refl
step_picks_are t wants_room = refl
step_picks_are t rested = refl
step_picks_are t (ended value) = refl
step_picks_are t (trapped word kind) = refl
step_picks_are t passed_limit = refl
step_picks_are t lacked_stack = refl

pub turn_picks : (w t local : ℕ) (turned : Turned) → journal_picks (turn_entry w t local turned ∷ []) ≡ replicate local (pick t answers.Plain) ++ turned_picks t turned
turn_picks w t local turned =
    let answers_told = map (λ answer. (t, answer)) (step_answers (how_of turned)) in
    ap (map told_pick) (append-nil (replicate local (t, journal_answers.Plain) ++ answers_told))
    ∙ map-append told_pick (replicate local (t, journal_answers.Plain)) answers_told
    ∙ ap (λ (ps : List Pick). ps ++ map told_pick answers_told) (map-replicate local t)
    ∙ ap (λ (ps : List Pick). replicate local (pick t answers.Plain) ++ ps) (step_picks_are t turned)

pub turn_attempts : (w t local : ℕ) (turned : Turned) (turns : ℕ) → attempts_from turns (turn_entry w t local turned ∷ []) ≡ turned_tries t turned (turns + local)
turn_attempts w t local looked turns = refl
turn_attempts w t local stepped turns = refl
turn_attempts w t local (got id place) turns = refl
turn_attempts w t local got_null turns = refl
turn_attempts w t local (made_thread number) turns = refl
turn_attempts w t local refused_thread turns = refl
turn_attempts w t local found_busy turns = refl
turn_attempts w t local wants_room turns = refl
turn_attempts w t local rested turns = refl
turn_attempts w t local (ended value) turns = refl
turn_attempts w t local (trapped word kind) turns = refl
turn_attempts w t local passed_limit turns = refl
turn_attempts w t local lacked_stack turns = refl

pub turn_ids : (w t local : ℕ) (turned : Turned) → ids_told (turn_entry w t local turned ∷ []) ≡ turned_ids turned
turn_ids w t local looked = refl
turn_ids w t local stepped = refl
turn_ids w t local (got id place) = refl
turn_ids w t local got_null = refl
turn_ids w t local (made_thread number) = refl
turn_ids w t local refused_thread = refl
turn_ids w t local found_busy = refl
turn_ids w t local wants_room = refl
turn_ids w t local rested = refl
turn_ids w t local (ended value) = refl
turn_ids w t local (trapped word kind) = refl
turn_ids w t local passed_limit = refl
turn_ids w t local lacked_stack = refl

-- ---- a barrier

serve_entry_ids : (w thread : ℕ) (c : Choice) → entry_ids (served_with w thread (object_got c)) ≡ chosen_id c
serve_entry_ids w thread plain = refl
serve_entry_ids w thread (chosen.got id place) = refl
serve_entry_ids w thread null = refl
serve_entry_ids w thread wait = refl

pub serves_ids : (w : ℕ) (vs : List Serve) → ids_told (map (served_entry w) (map served_of vs)) ≡ served_ids vs
serves_ids w [] = refl
serves_ids w (v ∷ vs) = λ i. serve_entry_ids w v.thread v.choice i ++ serves_ids w vs i

serve_entry_picks : (w thread : ℕ) (c : Choice) (es : List Entry) → journal_picks (served_with w thread (object_got c) ∷ es) ≡ pick thread (choice_answer c) ∷ journal_picks es
serve_entry_picks w thread plain es = refl
serve_entry_picks w thread (chosen.got id place) es = refl
serve_entry_picks w thread null es = refl
serve_entry_picks w thread wait es = refl

pub serves_picks : (w : ℕ) (vs : List Serve) → journal_picks (map (served_entry w) (map served_of vs)) ≡ map (λ (v : Serve). pick v.thread (choice_answer v.choice)) vs
serves_picks w [] = refl
serves_picks w (v ∷ vs) = serve_entry_picks w v.thread v.choice (map (served_entry w) (map served_of vs)) ∙ ap (λ (ps : List Pick). pick v.thread (choice_answer v.choice) ∷ ps) (serves_picks w vs)

none_served : (w thread : ℕ) (c : Choice) (turns : ℕ) → attempts_at turns (served_with w thread (object_got c)) ≡ []
none_served w thread plain turns = refl
none_served w thread (chosen.got id place) turns = refl
none_served w thread null turns = refl
none_served w thread wait turns = refl

pub serves_attempts : (w : ℕ) (vs : List Serve) (turns : ℕ) → attempts_from turns (map (served_entry w) (map served_of vs)) ≡ []
serves_attempts w [] turns = refl
serves_attempts w (v ∷ vs) turns =
    ap (λ (as' : List (ℕ × ℕ)). as' ++ attempts_from (turns + length (turns_of (served_entry w (served_of v)))) (map (served_entry w) (map served_of vs))) (none_served w v.thread v.choice turns)
    ∙ serves_attempts w vs (turns + length (turns_of (served_entry w (served_of v))))
