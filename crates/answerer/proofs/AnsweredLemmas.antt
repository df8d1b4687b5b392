-- What answering one reply after the other does.
use Rattle.std.proofs.Common.{◌≡◌, ◌≢◌, ◌∙◌, ◌⊎◌, inl, inr, ◌+◌, ◌<◌, ◌≤◌, ℕ, zero, suc, List, [], ◌∷◌, ◌++◌, append_assoc, Option, Some, None, Result, Ok, Err, length, take, drop, get_or, slice_get, refl, sym, ap, subst, arith}
use Rattle.std.proofs.lemmas.Bool.{cases_eq}
use Rattle.std.proofs.lemmas.Grind.{flat_map-append}
use Rattle.std.proofs.lemmas.List.{take-append-drop, take_all, take_more}
use Rattle.std.specs.Result.{OnOk}
use Rattle.join_base.specs.declared.items.NoMemory.{NoMemory}
use Rattle.join_base.specs.declared.message.Value.{Value}
use Rattle.pattern_core.specs.Members.{IsIn}
use Rattle.pattern_core.proofs.MembersLemmas.{IsIn-append_cases, IsIn-append_left, IsIn-append_right}
use Rattle.fair_semantics.specs.declared.run.Effect.{Effect}
use Rattle.fair_semantics.specs.declared.run.Effect.TheVariants.{Reply}
use Rattle.fair_semantics.specs.declared.run.Entry.{Entry}
use Rattle.fair_semantics.specs.Linked.{firing_effects}
use Rattle.feed_answers.specs.Answers.{effects_in}
use Rattle.ask_board.specs.declared.view.Ask.{Ask}
use Rattle.ask_board.specs.declared.board.AskBoard.{AskBoard}
use Rattle.ask_board.specs.Board.{HasAsk, KnowsAnother, StaysKnown}
use Rattle.ask_board.proofs.RowsLemmas.{same_ask}
use Rattle.answerer.specs.declared.answering.Answers.{Answers}
use Rattle.answerer.specs.Asks.{ask_at}
use Rattle.answerer.specs.Answered.{Answered, AreTried, AreTriedBack, AnswersOne, GoesOn, IsAnswer, IsOfBoard, IsTried, known}
use Rattle.answerer.proofs.AskLemmas.{get_front, get_last}

-- ---- what stays known

pub stays_same : (o now : Option Value) → now ≡ o → StaysKnown o now
stays_same None now e = tt
stays_same (Some v) now e = e

pub stays_on : (a b c : Option Value) → StaysKnown a b → StaysKnown b c → StaysKnown a c
stays_on None b c h k = tt
stays_on (Some v) b c h k = rw h at k

pub another_stays : (a b : Option Value) (value : Value) → StaysKnown a b → KnowsAnother a value → KnowsAnother b value
another_stays None b value h k = absurd k
another_stays (Some v) b value h k = rw h k

pub ask_cases : (x y : Ask) → (x ≡ y) ⊎ (x ≢ y)
ask_cases x y = by_feed (cases_eq x.feed y.feed)
  where
    by_place : x.feed ≡ y.feed → x.actor ≡ y.actor → (x.place ≡ y.place) ⊎ (x.place ≡ y.place → ⊥) → (x ≡ y) ⊎ (x ≢ y)
    by_place f a (inl p) = inl (same_ask x y f a p)
    by_place f a (inr p) = inr (λ e. p (ap (λ (z : Ask). z.place) e))

    by_actor : x.feed ≡ y.feed → (x.actor ≡ y.actor) ⊎ (x.actor ≡ y.actor → ⊥) → (x ≡ y) ⊎ (x ≢ y)
    by_actor f (inl a) = by_place f a (cases_eq x.place y.place)
    by_actor f (inr a) = inr (λ e. a (ap (λ (z : Ask). z.actor) e))

    by_feed : (x.feed ≡ y.feed) ⊎ (x.feed ≡ y.feed → ⊥) → (x ≡ y) ⊎ (x ≢ y)
    by_feed (inl f) = by_actor f (cases_eq x.actor y.actor)
    by_feed (inr f) = inr (λ e. f (ap (λ (z : Ask). z.feed) e))

-- ---- what goes on

pub goes_same : (a : Answers) → GoesOn a a
goes_same a = record { board = refl; stays = λ ask. stays_same (known a ask) (known a ask) refl; kept = λ ask h. h }

pub goes_on_on : (a b c : Answers) → GoesOn a b → GoesOn b c → GoesOn a c
goes_on_on a b c first later = record {
  board = later.board ∙ first.board;
  stays = λ ask. stays_on (known a ask) (known b ask) (known c ask) (first.stays ask) (later.stays ask);
  kept = λ ask h. later.kept ask (first.kept ask h);
}

pub answered_goes_on : (asks : List (Option Ask)) (effects : List Effect) (a b : Answers) → Answered asks effects a b → GoesOn a b
answered_goes_on asks effects a b on = record { board = on.board; stays = on.stays; kept = on.kept }

-- what was tried stays so
pub tried_goes_on : (a b : Answers) (ask : Ask) (value : Value) → GoesOn a b → IsTried a ask value → IsTried b ask value
tried_goes_on a b ask value on (inl h) = inl (on.kept ask h)
tried_goes_on a b ask value on (inr another) = inr (another_stays (known a ask) (known b ask) value (on.stays ask) another)

pub back_goes_on : (asks : List (Option Ask)) (entries : List Entry) (a b : Answers) → GoesOn a b → AreTriedBack asks entries a → AreTriedBack asks entries b
back_goes_on asks entries a b on tried = λ place entry number value ask there h back here has.
    tried_goes_on a b ask value on (tried place entry number value ask there h back here (subst (λ (board : AskBoard). HasAsk board ask) on.board has))

-- ---- steps

pub answered_same : (asks : List (Option Ask)) (effects : List Effect) (a : Answers) → IsOfBoard a → Answered asks effects a a
answered_same asks effects a of = record {
  board = refl;
  of_board = of;
  stays = λ ask. stays_same (known a ask) (known a ask) refl;
  others = λ ask none. refl;
  kept = λ ask h. h;
  listed = λ ask h. inl h;
}

-- one ask was answered by a reply to its arrival
pub answered_by : (asks : List (Option Ask)) (number : ℕ) (value : Value) (ask : Ask) (a b : Answers) → ask_at asks number ≡ Some ask → AnswersOne ask value a b → Answered asks (Reply number value ∷ []) a b
answered_by asks number value ask a b here gives = record {
  board = gives.board;
  of_board = gives.of_board;
  stays = λ another. stays another (ask_cases another ask);
  others = λ another none. gives.others another (λ e. none number (here ∙ ap (λ (x : Ask). Some x) (sym e)));
  kept = λ another h. kept another h gives.listed;
  listed = λ another h. listed another h gives.listed;
}
  where
    stays : (another : Ask) → (another ≡ ask) ⊎ (another ≢ ask) → StaysKnown (known a another) (known b another)
    stays another (inl e) = subst (λ (x : Ask). StaysKnown (known a x) (known b x)) (sym e) gives.stays
    stays another (inr e) = stays_same (known a another) (known b another) (gives.others another e)

    kept : (another : Ask) → IsIn another a.asks → (b.asks ≡ a.asks) ⊎ ((b.asks ≡ a.asks ++ ask ∷ []) × (known b ask ≡ Some value)) → IsIn another b.asks
    kept another h (inl same) = subst (IsIn another) (sym same) h
    kept another h (inr more) = subst (IsIn another) (sym more.0) (IsIn-append_left another a.asks (ask ∷ []) h)

    new : (another : Ask) → known b ask ≡ Some value → IsIn another a.asks ⊎ IsIn another (ask ∷ []) → IsIn another a.asks ⊎ IsAnswer asks (Reply number value ∷ []) b another
    new another is (inl h) = inl h
    new another is (inr (inl e)) = inr record {
      number = number;
      value = value;
      here = here ∙ ap (λ (x : Ask). Some x) e;
      replied = inl refl;
      is_known = ap (known b) (sym e) ∙ is;
    }
    new another is (inr (inr none)) = absurd none

    listed : (another : Ask) → IsIn another b.asks → (b.asks ≡ a.asks) ⊎ ((b.asks ≡ a.asks ++ ask ∷ []) × (known b ask ≡ Some value)) → IsIn another a.asks ⊎ IsAnswer asks (Reply number value ∷ []) b another
    listed another h (inl same) = inl (subst (IsIn another) same h)
    listed another h (inr more) = new another more.1 (IsIn-append_cases another a.asks (ask ∷ []) (subst (IsIn another) more.0 h))

stays_answer : (asks : List (Option Ask)) (e1 e2 : List Effect) (b c : Answers) (ask : Ask) → Answered asks e2 b c → IsAnswer asks e1 b ask → IsAnswer asks (e1 ++ e2) c ask
stays_answer asks e1 e2 b c ask later answer = record {
  number = answer.number;
  value = answer.value;
  here = answer.here;
  replied = IsIn-append_left (Reply answer.number answer.value) e1 e2 answer.replied;
  is_known = stays_on (Some answer.value) (known b ask) (known c ask) answer.is_known (later.stays ask);
}

answer_behind : (asks : List (Option Ask)) (e1 e2 : List Effect) (c : Answers) (ask : Ask) → IsAnswer asks e2 c ask → IsAnswer asks (e1 ++ e2) c ask
answer_behind asks e1 e2 c ask answer = record {
  number = answer.number;
  value = answer.value;
  here = answer.here;
  replied = IsIn-append_right (Reply answer.number answer.value) e1 e2 answer.replied;
  is_known = answer.is_known;
}

pub answered_on : (asks : List (Option Ask)) (e1 e2 : List Effect) (a b c : Answers) → Answered asks e1 a b → Answered asks e2 b c → Answered asks (e1 ++ e2) a c
answered_on asks e1 e2 a b c first later = record {
  board = later.board ∙ first.board;
  of_board = later.of_board;
  stays = λ ask. stays_on (known a ask) (known b ask) (known c ask) (first.stays ask) (later.stays ask);
  others = λ ask none. later.others ask none ∙ first.others ask none;
  kept = λ ask h. later.kept ask (first.kept ask h);
  listed = λ ask h. by ask (later.listed ask h);
}
  where
    from_first : (ask : Ask) → IsIn ask a.asks ⊎ IsAnswer asks e1 b ask → IsIn ask a.asks ⊎ IsAnswer asks (e1 ++ e2) c ask
    from_first ask (inl h) = inl h
    from_first ask (inr answer) = inr (stays_answer asks e1 e2 b c ask later answer)

    by : (ask : Ask) → IsIn ask b.asks ⊎ IsAnswer asks e2 c ask → IsIn ask a.asks ⊎ IsAnswer asks (e1 ++ e2) c ask
    by ask (inl h) = from_first ask (first.listed ask h)
    by ask (inr answer) = inr (answer_behind asks e1 e2 c ask answer)

-- what was done for some effects was done for more
pub answered_more : (asks : List (Option Ask)) (e1 e2 effects : List Effect) (a b : Answers) → effects ≡ e1 ++ e2 → Answered asks e1 a b → Answered asks effects a b
answered_more asks e1 e2 effects a b is first =
    subst (λ (es : List Effect). Answered asks es a b) (sym is) (answered_on asks e1 e2 a b b first (answered_same asks e2 b first.of_board))

-- one that stops early did some of the effects
pub effects_stopped : (asks : List (Option Ask)) (effects : List Effect) (i : ℕ) (effect : Effect) (a b c : Answers) → i < length effects → effect ≡ get_or effects i effect
    → Answered asks (take i effects) a b → Answered asks (effect ∷ []) b c → Answered asks effects a c
effects_stopped asks effects i effect a b c l at first on =
    let next : take (i + 1) effects ≡ take i effects ++ effect ∷ [] = take_more effects i effect l ∙ ap (λ (x : Effect). take i effects ++ x ∷ []) (sym at) in
    let both = answered_on asks (take i effects) (effect ∷ []) a b c first on in
    answered_more asks (take i effects ++ effect ∷ []) (drop (i + 1) effects) effects a c (sym (take-append-drop (i + 1) effects) ∙ ap (λ (es : List Effect). es ++ drop (i + 1) effects) next) both

-- ---- what was tried

-- an ask that was listed was tried
pub push_tried : (a : Answers) (before : List Ask) (ask : Ask) (value : Value) (result : Result (Unit {0}) NoMemory) → OnOk result (a.asks ≡ before ++ ask ∷ []) → OnOk result (IsTried a ask value)
push_tried a before ask value (Ok done) is = inl (subst (IsIn ask) (sym is) (IsIn-append_right ask before (ask ∷ []) (inl refl)))
push_tried a before ask value (Err e) is = tt

pub tried_on : (asks : List (Option Ask)) (effects : List Effect) (a b : Answers) (ask : Ask) (value : Value) → Answered asks effects a b → IsTried a ask value → IsTried b ask value
tried_on asks effects a b ask value on tried = tried_goes_on a b ask value (answered_goes_on asks effects a b on) tried

pub none_tried : (asks : List (Option Ask)) (a : Answers) → AreTried asks [] a
none_tried asks a = λ number value ask h here has. absurd h

-- one effect that replies to nothing
pub no_reply : (asks : List (Option Ask)) (effect : Effect) (a : Answers) → ((number : ℕ) (value : Value) → effect ≡ Reply number value → ⊥) → AreTried asks (effect ∷ []) a
no_reply asks effect a none = λ number value ask h here has. absurd (by number value h)
  where
    by : (number : ℕ) (value : Value) → IsIn (Reply number value) (effect ∷ []) → ⊥
    by number value (inl e) = none number value e
    by number value (inr h) = h

pub tried_more : (asks : List (Option Ask)) (e1 e2 : List Effect) (a b : Answers) → Answered asks e2 a b → AreTried asks e1 a → AreTried asks e2 b → AreTried asks (e1 ++ e2) b
tried_more asks e1 e2 a b on first later = λ number value ask h here has. by number value ask here has (IsIn-append_cases (Reply number value) e1 e2 h)
  where
    by : (number : ℕ) (value : Value) (ask : Ask) → ask_at asks number ≡ Some ask → HasAsk b.board.now ask → IsIn (Reply number value) e1 ⊎ IsIn (Reply number value) e2 → IsTried b ask value
    by number value ask here has (inl h) = tried_on asks e2 a b ask value on (first number value ask h here (subst (λ (board : AskBoard). HasAsk board ask) on.board has))
    by number value ask here has (inr h) = later number value ask h here has

-- the effect at a place, after those before it
pub effect_step : (asks : List (Option Ask)) (effects : List Effect) (i : ℕ) (effect : Effect) (a b c : Answers) → i < length effects → effect ≡ get_or effects i effect
    → Answered asks (take i effects) a b → Answered asks (effect ∷ []) b c → Answered asks (take (i + 1) effects) a c
effect_step asks effects i effect a b c l at first on =
    let next : take (i + 1) effects ≡ take i effects ++ effect ∷ [] = take_more effects i effect l ∙ ap (λ (x : Effect). take i effects ++ x ∷ []) (sym at) in
    subst (λ (es : List Effect). Answered asks es a c) (sym next) (answered_on asks (take i effects) (effect ∷ []) a b c first on)

pub effect_tried : (asks : List (Option Ask)) (effects : List Effect) (i : ℕ) (effect : Effect) (b c : Answers) → i < length effects → effect ≡ get_or effects i effect
    → Answered asks (effect ∷ []) b c → AreTried asks (take i effects) b → AreTried asks (effect ∷ []) c → AreTried asks (take (i + 1) effects) c
effect_tried asks effects i effect b c l at on first later =
    let next : take (i + 1) effects ≡ take i effects ++ effect ∷ [] = take_more effects i effect l ∙ ap (λ (x : Effect). take i effects ++ x ∷ []) (sym at) in
    subst (λ (es : List Effect). AreTried asks es c) (sym next) (tried_more asks (take i effects) (effect ∷ []) b c on first later)

-- ---- entries

pub effects-append : (xs ys : List Entry) → effects_in (xs ++ ys) ≡ effects_in xs ++ effects_in ys
effects-append xs ys = flat_map-append (λ (entry : Entry). firing_effects entry.firing) xs ys

one_entry : (x : Entry) → effects_in (x ∷ []) ≡ firing_effects x.firing ++ []
one_entry x = refl

next_entries : (entries : List Entry) (i : ℕ) (x : Entry) → i < length entries → x ≡ get_or entries i x → take (i + 1) entries ≡ take i entries ++ x ∷ []
next_entries entries i x l at = take_more entries i x l ∙ ap (λ (y : Entry). take i entries ++ y ∷ []) (sym at)

pub entry_step : (asks : List (Option Ask)) (entries : List Entry) (i : ℕ) (x : Entry) (a b c : Answers) → i < length entries → x ≡ get_or entries i x
    → Answered asks (effects_in (take i entries)) a b → Answered asks (firing_effects x.firing) b c → Answered asks (effects_in (take (i + 1) entries)) a c
entry_step asks entries i x a b c l at first on =
    let e1 : List Effect = effects_in (take i entries) in
    let e2 : List Effect = firing_effects x.firing in
    let both = answered_on asks e1 e2 a b c first on in
    let whole : effects_in (take (i + 1) entries) ≡ (e1 ++ e2) ++ [] = ap effects_in (next_entries entries i x l at) ∙ effects-append (take i entries) (x ∷ []) ∙ sym (append_assoc e1 e2 []) in
    answered_more asks (e1 ++ e2) [] (effects_in (take (i + 1) entries)) a c whole both

up : (n m : ℕ) → (n < m) ⊎ (m ≤ n) → (suc n < suc m) ⊎ (suc m ≤ suc n)
up n m (inl h) = inl (omega arith)
up n m (inr h) = inr (omega arith)

pub less_or_not : (n m : ℕ) → (n < m) ⊎ (m ≤ n)
less_or_not n zero = inr (omega arith)
less_or_not zero (suc m) = inl (omega arith)
less_or_not (suc n) (suc m) = up n m (less_or_not n m)

pub entry_tried : (asks : List (Option Ask)) (entries : List Entry) (i : ℕ) (x : Entry) (b c : Answers) → i < length entries → x ≡ get_or entries i x
    → Answered asks (firing_effects x.firing) b c → AreTriedBack asks (take i entries) b → AreTried asks (firing_effects x.firing) c → AreTriedBack asks (take (i + 1) entries) c
entry_tried asks entries i x b c l at on first later =
    subst (λ (es : List Entry). AreTriedBack asks es c) (sym (next_entries entries i x l at))
    (λ place entry number value ask there h back here has. by place entry number value ask there h back here has (less_or_not place (length (take i entries))))
  where
    by : (place : ℕ) (entry : Entry) (number : ℕ) (value : Value) (ask : Ask) → slice_get (take i entries ++ x ∷ []) place ≡ Some entry → IsIn (Reply number value) (firing_effects entry.firing) → number ≤ place + 1 → ask_at asks number ≡ Some ask
        → HasAsk c.board.now ask → (place < length (take i entries)) ⊎ (length (take i entries) ≤ place) → IsTried c ask value
    by place entry number value ask there h back here has (inl inside) =
        tried_on asks (firing_effects x.firing) b c ask value on
        (first place entry number value ask (sym (get_front (take i entries) (x ∷ []) place inside) ∙ there) h back here (subst (λ (board : AskBoard). HasAsk board ask) on.board has))
    by place entry number value ask there h back here has (inr past) =
        let (_, is) = get_last (take i entries) x entry place there past in
        later number value ask (subst (λ (e : Entry). IsIn (Reply number value) (firing_effects e.firing)) (sym is) h) here has

-- what was tried before a step stays so
pub back_on : (asks own : List (Option Ask)) (effects : List Effect) (entries : List Entry) (a b : Answers) → Answered own effects a b → AreTriedBack asks entries a → AreTriedBack asks entries b
back_on asks own effects entries a b on tried = back_goes_on asks entries a b (answered_goes_on own effects a b on) tried

-- one that stops early did some of the entries
pub entries_stopped : (asks : List (Option Ask)) (entries : List Entry) (i : ℕ) (x : Entry) (a b c : Answers) → i < length entries → x ≡ get_or entries i x
    → Answered asks (effects_in (take i entries)) a b → Answered asks (firing_effects x.firing) b c → Answered asks (effects_in entries) a c
entries_stopped asks entries i x a b c l at first on =
    let parts : effects_in entries ≡ effects_in (take (i + 1) entries) ++ effects_in (drop (i + 1) entries) = ap effects_in (sym (take-append-drop (i + 1) entries)) ∙ effects-append (take (i + 1) entries) (drop (i + 1) entries) in
    answered_more asks (effects_in (take (i + 1) entries)) (effects_in (drop (i + 1) entries)) (effects_in entries) a c parts (entry_step asks entries i x a b c l at first on)

-- all entries were tried
pub whole_tried : (asks all : List (Option Ask)) (entries : List Entry) (n : ℕ) (a : Answers) (result : Result (Unit {0}) NoMemory) → asks ≡ all → AreTriedBack asks (take n entries) a → OnOk result (n ≡ length entries) → OnOk result (AreTriedBack all entries a)
whole_tried asks all entries n a (Ok done) same tried is =
    let whole : take n entries ≡ entries = take_all n entries (omega arith) in
    subst (λ (os : List (Option Ask)). AreTriedBack os entries a) same (subst (λ (es : List Entry). AreTriedBack asks es a) whole tried)
whole_tried asks all entries n a (Err e) same tried is = tt
