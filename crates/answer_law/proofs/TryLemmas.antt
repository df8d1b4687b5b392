-- An answer in a run is a reply to the arrival of its ask, by an entry that is not before it.
use Rattle.std.proofs.Common.{◌≡◌, ◌∙◌, ◌⊎◌, inl, inr, ◌+◌, ◌<◌, ◌≤◌, ℕ, zero, suc, List, [], ◌∷◌, ◌++◌, Bool, true, false, Option, Some, None, length, take, slice_get, refl, sym, ap, arith}
use Rattle.std.specs.Prelude.{◌==◌, if◌then◌else◌}
use Rattle.std.specs.List.{cons_option, filter_map}
use Rattle.std.specs.Option.{option_and_then, option_flatten}
use Rattle.std.proofs.lemmas.Bool.Decides.{nat_tests}
use Rattle.std.proofs.lemmas.List.{length_push}
use Rattle.guard_eval.proofs.ReadyLemmas.{each_at}
use Rattle.join_base.specs.declared.message.Value.{Value}
use Rattle.join_base.specs.declared.message.Source.{Source}
use Rattle.join_base.specs.declared.message.Source.TheVariants.{Feed, Actor}
use Rattle.pattern_core.specs.Members.{IsIn}
use Rattle.pattern_core.proofs.MembersLemmas.{IsIn-append_cases}
use Rattle.fair_semantics.specs.declared.run.ActorRun.{ActorRun}
use Rattle.fair_semantics.specs.declared.run.Effect.{Effect}
use Rattle.fair_semantics.specs.declared.run.Effect.TheVariants.{Print, Post, Reply}
use Rattle.fair_semantics.specs.declared.run.Entry.{Entry}
use Rattle.fair_semantics.specs.Linked.{firing_effects, same_source}
use Rattle.feed_answers.specs.Answers.{arrivals_from, effects_in, from_one, reply_at, reply_in, reply_to}
use Rattle.feed_answers.specs.Queues.{AreNumbered, HasNumbers}
use Rattle.feed_answers.proofs.NumberedLemmas.{numbered_run}
use Rattle.run_laws.specs.Replies.{RepliesBack}
use Rattle.run_laws.proofs.LawLemmas.{linked_takes_once}
use Rattle.ask_board.specs.declared.view.Ask.{Ask}
use Rattle.ask_board.proofs.RowsLemmas.{same_ask}
use Rattle.answerer.specs.Asks.{ask_at, asks_of, last_ask}
use Rattle.answerer.proofs.AnsweredLemmas.{less_or_not}
use Rattle.answer_law.specs.Replies.{ReadersTry}
use Rattle.answer_law.proofs.OneLemmas.{ask_there, numbered_at, own_arrivals, replied_some}

-- where a composed value is there, both parts are
pub then_some : {A B : Type 0} (f : A → Option B) (o : Option A) (y : B) → option_and_then f o ≡ Some y → (x : A) × (o ≡ Some x) × (f x ≡ Some y)
then_some f None y e = absurd cc
then_some f (Some x) y e = (x, refl, e)

same_number : (n m : ℕ) → (n == m) ≡ true → n ≡ m
same_number n m e = grind (arith, nat_tests)

-- ---- the ask of an arrival

-- the arrival at a place among those of a feed, with the number of those before it
record IsFound (feed : ℕ) (entries : List Entry) (place number : ℕ) : Type 0 where
  pub spot : ℕ
  pub entry : Entry
  pub there : slice_get entries spot ≡ Some entry
  pub from_feed : same_source entry.source (Feed feed) ≡ true
  pub its_number : entry.number ≡ number
  pub before : length (arrivals_from (Feed feed) (take spot entries)) ≡ place

found_at : (feed : ℕ) (entries : List Entry) (place number : ℕ) → slice_get (arrivals_from (Feed feed) entries) place ≡ Some number → IsFound feed entries place number
found_at feed [] place number e = absurd cc
found_at feed (x ∷ entries) place number e = by (same_source x.source (Feed feed)) refl place e (λ (p : ℕ) (later : slice_get (arrivals_from (Feed feed) entries) p ≡ Some number). found_at feed entries p number later)
  where
    count : Bool → List Entry → ℕ
    count b front = length (cons_option (if b then Some x.number else None) (arrivals_from (Feed feed) front))

    by : (b : Bool) → same_source x.source (Feed feed) ≡ b → (p : ℕ) → slice_get (cons_option (if b then Some x.number else None) (arrivals_from (Feed feed) entries)) p ≡ Some number
        → ((p : ℕ) → slice_get (arrivals_from (Feed feed) entries) p ≡ Some number → IsFound feed entries p number) → IsFound feed (x ∷ entries) p number
    by true own zero e rest = record { spot = 0; entry = x; there = refl; from_feed = own; its_number = cc; before = refl }
    by true own (suc p) e rest =
        let later = rest p e in
        record {
          spot = suc later.spot;
          entry = later.entry;
          there = later.there;
          from_feed = later.from_feed;
          its_number = later.its_number;
          before = ap (λ (b : Bool). count b (take later.spot entries)) own ∙ ap suc later.before;
        }
    by false own p e rest =
        let later = rest p e in
        record {
          spot = suc later.spot;
          entry = later.entry;
          there = later.there;
          from_feed = later.from_feed;
          its_number = later.its_number;
          before = ap (λ (b : Bool). count b (take later.spot entries)) own ∙ later.before;
        }

feed_source : (source : Source) (feed : ℕ) → same_source source (Feed feed) ≡ true → source ≡ Feed feed
feed_source (Feed k) feed e = ap (λ (n : ℕ). Feed n) (same_number k feed e)
feed_source (Actor a) feed e = absurd cc

pub ask_of_arrival : (entries : List Entry) (number : ℕ) (ask : Ask) → AreNumbered entries → from_one (arrivals_from (Feed ask.feed) entries) ask.place ≡ Some number → ask_at (asks_of ask.actor entries) number ≡ Some ask
ask_of_arrival entries number ask numbered e = by ask.place refl e
  where
    by : (place : ℕ) → ask.place ≡ place → from_one (arrivals_from (Feed ask.feed) entries) place ≡ Some number → ask_at (asks_of ask.actor entries) number ≡ Some ask
    by zero own e = absurd cc
    by (suc p) own e =
        let f = found_at ask.feed entries p number e in
        let x : Entry = f.entry in
        let front : List Entry = take f.spot entries in
        let source : x.source ≡ Feed ask.feed = feed_source x.source ask.feed f.from_feed in
        let pushed : length (arrivals_from (Feed ask.feed) (front ++ x ∷ [])) ≡ length (arrivals_from (Feed ask.feed) front) + 1 =
        ap length (own_arrivals front [] x ask.feed source) ∙ length_push (arrivals_from (Feed ask.feed) front) x.number in
        let size : length (arrivals_from (Feed ask.feed) (front ++ x ∷ [])) ≡ ask.place = omega (arith, pushed, f.before, own) in
        let made : Ask = record { feed = ask.feed; actor = ask.actor; place = length (arrivals_from (Feed ask.feed) (front ++ x ∷ [])) } in
        let last : last_ask ask.actor x.source (front ++ x ∷ []) ≡ Some ask =
        ap (λ (s : Source). last_ask ask.actor s (front ++ x ∷ [])) source ∙ ap (λ (a : Ask). Some a) (same_ask made ask refl refl size) in
        let same : number ≡ suc f.spot = sym f.its_number ∙ numbered_at entries f.spot x numbered f.there in
        ap (λ (n : ℕ). ask_at (asks_of ask.actor entries) n) same
        ∙ ap (λ (o : Option (Option Ask)). option_flatten o) (ask_there ask.actor entries f.spot x f.there ∙ ap (λ (o : Option Ask). Some o) last)

-- ---- the reply to an arrival

first_in : (number : ℕ) (value : Value) (effects : List Effect) → slice_get (filter_map (reply_to number) effects) 0 ≡ Some value → IsIn (Reply number value) effects
first_in number value [] e = absurd cc
first_in number value (Print line ∷ effects) e = inr (first_in number value effects e)
first_in number value (Post target message ∷ effects) e = inr (first_in number value effects e)
first_in number value (Reply to other ∷ effects) e = by (to == number) refl e (λ (later : slice_get (filter_map (reply_to number) effects) 0 ≡ Some value). first_in number value effects later)
  where
    by : (b : Bool) → (to == number) ≡ b → slice_get (cons_option (if b then Some other else None) (filter_map (reply_to number) effects)) 0 ≡ Some value
        → (slice_get (filter_map (reply_to number) effects) 0 ≡ Some value → IsIn (Reply number value) effects) → IsIn (Reply number value) (Reply to other ∷ effects)
    by true same e later =
        let is : other ≡ value = cc in
        inl (ap (λ (n : ℕ). Reply n other) (same_number to number same) ∙ ap (λ (v : Value). Reply number v) is)
    by false same e later = inr (later e)

-- an effect stands among those of one entry
record IsOfEntry (entries : List Entry) (effect : Effect) : Type 0 where
  pub place : ℕ
  pub entry : Entry
  pub there : slice_get entries place ≡ Some entry
  pub inside : IsIn effect (firing_effects entry.firing)

of_entry : (entries : List Entry) (effect : Effect) → IsIn effect (effects_in entries) → IsOfEntry entries effect
of_entry [] effect h = absurd h
of_entry (e ∷ entries) effect h = by (IsIn-append_cases effect (firing_effects e.firing) (effects_in entries) h) (λ (later : IsIn effect (effects_in entries)). of_entry entries effect later)
  where
    by : IsIn effect (firing_effects e.firing) ⊎ IsIn effect (effects_in entries) → (IsIn effect (effects_in entries) → IsOfEntry entries effect) → IsOfEntry (e ∷ entries) effect
    by (inl here) rest = record { place = 0; entry = e; there = refl; inside = here }
    by (inr h) rest =
        let later = rest h in
        record { place = suc later.place; entry = later.entry; there = later.there; inside = later.inside }

not_before : (entries : List Entry) (place : ℕ) (entry : Entry) (number : ℕ) (value : Value) → RepliesBack entries → slice_get entries place ≡ Some entry → IsIn (Reply number value) (firing_effects entry.firing) → number ≤ place + 1
not_before entries place entry number value back there inside = by (less_or_not (place + 1) number)
  where
    by : (place + 1 < number) ⊎ (number ≤ place + 1) → number ≤ place + 1
    by (inl l) =
        let some = replied_some number value (firing_effects entry.firing) inside in
        let none = back place entry number there l in
        absurd (omega (arith, some, none))
    by (inr l) = l

-- ---- the law

pub readers_try : ReadersTry
readers_try plan limits feeds run typed linked answerer ask own value there tried has answer =
    let reply : reply_at own.entries ask.feed ask.place ≡ Some value = sym (ap (option_and_then (λ (r : ActorRun). reply_at r.entries ask.feed ask.place)) there) ∙ answer in
    let (number, arrival, is) = then_some (reply_in own.entries) (from_one (arrivals_from (Feed ask.feed) own.entries) ask.place) value reply in
    let numbered : AreNumbered own.entries = each_at HasNumbers run.actors ask.actor own there (numbered_run plan limits feeds run linked) in
    let by = of_entry own.entries (Reply number value) (first_in number value (effects_in own.entries) is) in
    let once = linked_takes_once plan limits feeds run typed linked ask.actor own there in
    let back = not_before own.entries by.place by.entry number value once.back by.there by.inside in
    tried by.place by.entry number value ask by.there by.inside back (ask_of_arrival own.entries number ask numbered arrival) has
