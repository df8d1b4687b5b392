-- The ask of each arrival of an actor.
use Rattle.std.proofs.Common.{◌≡◌, ◌∙◌, ◌+◌, ◌-◌, ◌<◌, ◌≤◌, ◌^◌, ℕ, zero, suc, List, [], ◌∷◌, ◌++◌, append_assoc, append-nil, Bool, true, false, Option, Some, None, length, length-append, take, get_or, slice_get, refl, sym, ap, arith}
use Rattle.std.specs.Prelude.{◌==◌, if◌then◌else◌}
use Rattle.std.specs.Option.{option_flatten}
use Rattle.std.specs.List.{cons_option}
use Rattle.std.proofs.lemmas.Bool.Decides.{nat_tests}
use Rattle.std.proofs.lemmas.List.{length-take-le, length_push, take-append-le, take_all, take_more}
use Rattle.std.proofs.lemmas.List.Elements.{filter_map-append}
use Rattle.join_base.specs.declared.message.Source.{Source}
use Rattle.join_base.specs.declared.message.Source.TheVariants.{Feed, Actor}
use Rattle.fair_semantics.specs.declared.run.Entry.{Entry}
use Rattle.fair_semantics.specs.Linked.{same_source}
use Rattle.feed_answers.specs.Answers.{arrivals_from, number_from}
use Rattle.ask_board.specs.declared.view.Ask.{Ask}
use Rattle.ask_board.specs.Rows.{from_one}
use Rattle.answerer.specs.Asks.{AreNoted, ask_at, asks_behind, asks_of, last_ask, last_from, last_place, next_ask}

-- ---- lists

pub get_front : {X : Type 0} (xs ys : List X) (k : ℕ) → k < length xs → slice_get (xs ++ ys) k ≡ slice_get xs k
get_front [] ys k l = absurd (omega arith)
get_front (x ∷ xs) ys zero l = refl
get_front (x ∷ xs) ys (suc k) l = get_front xs ys k (omega arith)

pub get_within : {X : Type 0} (xs : List X) (k : ℕ) (x : X) → slice_get xs k ≡ Some x → k < length xs
get_within [] k x e = absurd cc
get_within (y ∷ xs) zero x e = omega arith
get_within (y ∷ xs) (suc k) x e = let rest = get_within xs k x e in omega arith

-- the last of one more is it
pub get_last : {X : Type 0} (xs : List X) (y x : X) (k : ℕ) → slice_get (xs ++ y ∷ []) k ≡ Some x → length xs ≤ k → (k ≡ length xs) × (y ≡ x)
get_last [] y x zero e l = (refl, cc)
get_last [] y x (suc k) e l = absurd cc
get_last (z ∷ xs) y x zero e l = absurd (omega arith)
get_last (z ∷ xs) y x (suc k) e l = let (same, is) = get_last xs y x k e (omega arith) in (ap suc same, is)

-- ---- the ask of a number

at_some : (asks : List (Option Ask)) (number : ℕ) (ask : Ask) → ask_at asks number ≡ Some ask → from_one asks number ≡ Some (Some ask)
at_some asks number ask e = by (from_one asks number) refl
  where
    by : (o : Option (Option Ask)) → from_one asks number ≡ o → from_one asks number ≡ Some (Some ask)
    by None is = let none : None ≡ Some ask = rw is at e in absurd cc
    by (Some None) is = let none : None ≡ Some ask = rw is at e in absurd cc
    by (Some (Some a)) is = let same : Some a ≡ Some ask = rw is at e in is ∙ ap (λ (o : Option Ask). Some o) same

-- it is one of the asks, counted from 1
pub at_place : (asks : List (Option Ask)) (number : ℕ) (ask : Ask) → ask_at asks number ≡ Some ask → (place : ℕ) × (number ≡ suc place) × (slice_get asks place ≡ Some (Some ask))
at_place asks zero ask e = absurd cc
at_place asks (suc place) ask e = (place, refl, at_some asks (suc place) ask e)

pub ask_front : (asks more : List (Option Ask)) (number : ℕ) → number ≤ length asks → ask_at (asks ++ more) number ≡ ask_at asks number
ask_front asks more zero l = refl
ask_front asks more (suc k) l = ap (λ (o : Option (Option Ask)). option_flatten o) (get_front asks more k (omega arith))

pub ask_stays : (asks more : List (Option Ask)) (number : ℕ) (ask : Ask) → ask_at asks number ≡ Some ask → ask_at (asks ++ more) number ≡ Some ask
ask_stays asks more number ask e =
    let (place, is, here) = at_place asks number ask e in
    let within = get_within asks place (Some ask) here in
    ask_front asks more number (omega arith) ∙ e

-- ---- the asks of arrivals

asks-append : (actor : ℕ) (before xs ys : List Entry) → asks_behind actor before (xs ++ ys) ≡ asks_behind actor before xs ++ asks_behind actor (before ++ xs) ys
asks-append actor before [] ys = ap (λ (b : List Entry). asks_behind actor b ys) (sym (append-nil before))
asks-append actor before (x ∷ xs) ys =
    ap (λ (os : List (Option Ask)). last_ask actor x.source (before ++ x ∷ []) ∷ os)
    (asks-append actor (before ++ x ∷ []) xs ys ∙ ap (λ (b : List Entry). asks_behind actor (before ++ x ∷ []) xs ++ asks_behind actor b ys) (append_assoc before (x ∷ []) xs))

pub asks_go_on : (actor : ℕ) (entries more : List Entry) → asks_of actor (entries ++ more) ≡ asks_of actor entries ++ asks_behind actor entries more
asks_go_on actor entries more = asks-append actor [] entries more

length_behind : (actor : ℕ) (before xs : List Entry) → length (asks_behind actor before xs) ≡ length xs
length_behind actor before [] = refl
length_behind actor before (x ∷ xs) = ap suc (length_behind actor (before ++ x ∷ []) xs)

pub length_asks : (actor : ℕ) (entries : List Entry) → length (asks_of actor entries) ≡ length entries
length_asks actor entries = length_behind actor [] entries

last_actor : (actor : ℕ) (source : Source) (entries : List Entry) (ask : Ask) → last_ask actor source entries ≡ Some ask → ask.actor ≡ actor
last_actor actor (Feed feed) entries ask e =
    let same : record { feed = feed; actor = actor; place = length (arrivals_from (Feed feed) entries) } ≡ ask = cc in
    ap (λ (a : Ask). a.actor) (sym same)
last_actor actor (Actor from) entries ask e = absurd cc

behind_actor : (actor : ℕ) (before xs : List Entry) (k : ℕ) (ask : Ask) → slice_get (asks_behind actor before xs) k ≡ Some (Some ask) → ask.actor ≡ actor
behind_actor actor before [] k ask e = absurd cc
behind_actor actor before (x ∷ xs) zero ask e =
    let here : last_ask actor x.source (before ++ x ∷ []) ≡ Some ask = cc in
    last_actor actor x.source (before ++ x ∷ []) ask here
behind_actor actor before (x ∷ xs) (suc k) ask e = behind_actor actor (before ++ x ∷ []) xs k ask e

-- all asks of the arrivals of an actor are of it
pub asks_actor : (actor : ℕ) (entries : List Entry) (number : ℕ) (ask : Ask) → ask_at (asks_of actor entries) number ≡ Some ask → ask.actor ≡ actor
asks_actor actor entries number ask e =
    let (place, is, here) = at_place (asks_of actor entries) number ask e in
    behind_actor actor [] entries place ask here

-- ---- the place of the next arrival of a feed

same_number : (n m : ℕ) → (n == m) ≡ true → n ≡ m
same_number n m e = grind (arith, nat_tests)

equal_to_itself : (n : ℕ) → (n == n) ≡ true
equal_to_itself n = grind (arith, nat_tests)

none_more : (feed : ℕ) (before : List Entry) (x : Entry) → same_source x.source (Feed feed) ≡ false → length (arrivals_from (Feed feed) (before ++ x ∷ [])) ≡ length (arrivals_from (Feed feed) before)
none_more feed before x other =
    let none : number_from (Feed feed) x ≡ None = ap (λ (b : Bool). if b then Some x.number else None) other in
    ap length (filter_map-append (number_from (Feed feed)) before (x ∷ [])
    ∙ ap (λ (o : Option ℕ). arrivals_from (Feed feed) before ++ cons_option o []) none
    ∙ append-nil (arrivals_from (Feed feed) before))

one_more : (feed : ℕ) (before : List Entry) (x : Entry) → same_source x.source (Feed feed) ≡ true → length (arrivals_from (Feed feed) (before ++ x ∷ [])) ≡ length (arrivals_from (Feed feed) before) + 1
one_more feed before x own =
    let some : number_from (Feed feed) x ≡ Some x.number = ap (λ (b : Bool). if b then Some x.number else None) own in
    ap length (filter_map-append (number_from (Feed feed)) before (x ∷ [])
    ∙ ap (λ (o : Option ℕ). arrivals_from (Feed feed) before ++ cons_option o []) some)
    ∙ length_push (arrivals_from (Feed feed) before) x.number

last_one : (feed actor : ℕ) (before : List Entry) (x : Entry) (asks : List (Option Ask)) → last_from feed (length (arrivals_from (Feed feed) before)) (last_ask actor x.source (before ++ x ∷ []) ∷ asks) ≡ last_from feed (length (arrivals_from (Feed feed) (before ++ x ∷ []))) asks
last_one feed actor before x asks = by x.source refl
  where
    count : ℕ → List Entry → ℕ
    count k entries = length (arrivals_from (Feed k) entries)

    choose : (k : ℕ) (b : Bool) → x.source ≡ Feed k → (k == feed) ≡ b → (if b then length (arrivals_from (Feed k) (before ++ x ∷ [])) else length (arrivals_from (Feed feed) before)) ≡ length (arrivals_from (Feed feed) (before ++ x ∷ []))
    choose k true e q = ap (λ (n : ℕ). length (arrivals_from (Feed n) (before ++ x ∷ []))) (same_number k feed q)
    choose k false e q = sym (none_more feed before x (ap (λ (s : Source). same_source s (Feed feed)) e ∙ q))

    by : (s : Source) → x.source ≡ s → last_from feed (length (arrivals_from (Feed feed) before)) (last_ask actor s (before ++ x ∷ []) ∷ asks) ≡ last_from feed (length (arrivals_from (Feed feed) (before ++ x ∷ []))) asks
    by (Feed k) e = ap (λ (n : ℕ). last_from feed n asks) (choose k (k == feed) e refl)
    by (Actor a) e = ap (λ (n : ℕ). last_from feed n asks) (sym (none_more feed before x (ap (λ (s : Source). same_source s (Feed feed)) e)))

last_behind : (feed actor : ℕ) (before xs : List Entry) → last_from feed (length (arrivals_from (Feed feed) before)) (asks_behind actor before xs) ≡ length (arrivals_from (Feed feed) (before ++ xs))
last_behind feed actor before [] = ap (λ (es : List Entry). length (arrivals_from (Feed feed) es)) (sym (append-nil before))
last_behind feed actor before (x ∷ xs) =
    last_one feed actor before x (asks_behind actor (before ++ x ∷ []) xs)
    ∙ last_behind feed actor (before ++ x ∷ []) xs
    ∙ ap (λ (es : List Entry). length (arrivals_from (Feed feed) es)) (append_assoc before (x ∷ []) xs)

last_is : (feed actor : ℕ) (entries : List Entry) → last_place feed (asks_of actor entries) ≡ length (arrivals_from (Feed feed) entries)
last_is feed actor entries = last_behind feed actor [] entries

next_is : (actor : ℕ) (entries : List Entry) (x : Entry) → next_ask actor x.source (asks_of actor entries) ≡ last_ask actor x.source (entries ++ x ∷ [])
next_is actor entries x = by x.source refl
  where
    by : (s : Source) → x.source ≡ s → next_ask actor s (asks_of actor entries) ≡ last_ask actor s (entries ++ x ∷ [])
    by (Feed k) e =
        let own : same_source x.source (Feed k) ≡ true = ap (λ (s : Source). same_source s (Feed k)) e ∙ equal_to_itself k in
        let place : last_place k (asks_of actor entries) + 1 ≡ length (arrivals_from (Feed k) (entries ++ x ∷ [])) =
        ap (λ (n : ℕ). n + 1) (last_is k actor entries) ∙ sym (one_more k entries x own) in
        ap (λ (n : ℕ). Some record { feed = k; actor = actor; place = n }) place
    by (Actor a) e = refl

few_from : (source : Source) (entries : List Entry) → length (arrivals_from source entries) ≤ length entries
few_from source [] = omega arith
few_from source (x ∷ entries) = by (number_from source x) (few_from source entries)
  where
    by : (o : Option ℕ) → length (arrivals_from source entries) ≤ length entries → length (cons_option o (arrivals_from source entries)) ≤ length (x ∷ entries)
    by None l = omega arith
    by (Some n) l = omega arith

-- ---- the last ask of a feed, from the end

abbrev last_by : ℕ → ℕ → Option Ask → ℕ
last_by feed place None = place
last_by feed place (Some ask) = if ask.feed == feed then ask.place else place

last_push : (feed place : ℕ) (asks : List (Option Ask)) (o : Option Ask) → last_from feed place (asks ++ o ∷ []) ≡ last_by feed (last_from feed place asks) o
last_push feed place [] None = refl
last_push feed place [] (Some ask) = refl
last_push feed place (None ∷ asks) o = last_push feed place asks o
last_push feed place (Some ask ∷ asks) o = last_push feed (if ask.feed == feed then ask.place else place) asks o

-- with the ask at a place, where there is one
last_here : (feed : ℕ) (asks : List (Option Ask)) (left : ℕ) → 0 < left → left ≤ length asks → last_place feed (take left asks) ≡ last_by feed (last_place feed (take (left - 1) asks)) (get_or asks (left - 1) None)
last_here feed asks left some within =
    let on : left ≡ left - 1 + 1 = omega arith in
    ap (λ (n : ℕ). last_place feed (take n asks)) on
    ∙ ap (last_place feed) (take_more asks (left - 1) None (omega arith))
    ∙ last_push feed 0 (take (left - 1) asks) (get_or asks (left - 1) None)

-- no ask, or one of another feed
pub passes_none : (feed : ℕ) (asks : List (Option Ask)) (left : ℕ) → 0 < left → left ≤ length asks → get_or asks (left - 1) None ≡ None → last_place feed (take (left - 1) asks) ≡ last_place feed (take left asks)
passes_none feed asks left some within none = sym (last_here feed asks left some within ∙ ap (last_by feed (last_place feed (take (left - 1) asks))) none)

pub passes_other : (feed : ℕ) (asks : List (Option Ask)) (left : ℕ) (ask : Ask) → 0 < left → left ≤ length asks → get_or asks (left - 1) None ≡ Some ask → (ask.feed ≡ feed → ⊥) → last_place feed (take (left - 1) asks) ≡ last_place feed (take left asks)
passes_other feed asks left ask some within is other =
    let apart : (ask.feed == feed) ≡ false = grind (arith, nat_tests) in
    let choice : last_by feed (last_place feed (take (left - 1) asks)) (Some ask) ≡ last_place feed (take (left - 1) asks) = ap (λ (b : Bool). if b then ask.place else last_place feed (take (left - 1) asks)) apart in
    sym (last_here feed asks left some within ∙ ap (last_by feed (last_place feed (take (left - 1) asks))) is ∙ choice)

pub finds_last : (feed : ℕ) (asks : List (Option Ask)) (left : ℕ) (ask : Ask) → 0 < left → left ≤ length asks → get_or asks (left - 1) None ≡ Some ask → ask.feed ≡ feed → ask.place ≡ last_place feed (take left asks)
finds_last feed asks left ask some within is own =
    let same : (ask.feed == feed) ≡ true = grind (arith, nat_tests) in
    let choice : last_by feed (last_place feed (take (left - 1) asks)) (Some ask) ≡ ask.place = ap (λ (b : Bool). if b then ask.place else last_place feed (take (left - 1) asks)) same in
    sym (last_here feed asks left some within ∙ ap (last_by feed (last_place feed (take (left - 1) asks))) is ∙ choice)

-- ---- arrivals that are noted

pub noted_step : (actor : ℕ) (entries : List Entry) (asks : List (Option Ask)) (x : Entry) (place : ℕ) (after : List (Option Ask)) → AreNoted actor entries asks → length asks ≡ place → place < length entries → x ≡ get_or entries place x → after ≡ asks ++ next_ask actor x.source asks ∷ [] → AreNoted actor entries after
noted_step actor entries asks x place after noted count l at is =
    let front : List Entry = take place entries in
    let size : length after ≡ place + 1 = ap length is ∙ length_push asks (next_ask actor x.source asks) ∙ ap (λ (n : ℕ). n + 1) count in
    let same : asks ≡ asks_of actor front = noted.same ∙ ap (λ (n : ℕ). asks_of actor (take n entries)) count in
    let next : take (place + 1) entries ≡ front ++ x ∷ [] = take_more entries place x l ∙ ap (λ (y : Entry). front ++ y ∷ []) (sym at) in
    let now : after ≡ asks_of actor (front ++ x ∷ []) =
    is ∙ ap (λ (os : List (Option Ask)). os ++ next_ask actor x.source os ∷ []) same
    ∙ ap (λ (o : Option Ask). asks_of actor front ++ o ∷ []) (next_is actor front x)
    ∙ sym (asks_go_on actor front (x ∷ [])) in
    record {
      few = omega arith;
      same = now ∙ ap (asks_of actor) (sym next) ∙ ap (λ (n : ℕ). asks_of actor (take n entries)) (sym size);
    }

pub noted_all : (actor : ℕ) (entries : List Entry) (asks : List (Option Ask)) → AreNoted actor entries asks → length entries ≤ length asks → asks ≡ asks_of actor entries
noted_all actor entries asks noted l = noted.same ∙ ap (asks_of actor) (take_all (length asks) entries l)

pub noted_room : (actor : ℕ) (entries : List Entry) (asks : List (Option Ask)) (place : ℕ) → AreNoted actor entries asks → length asks ≡ place → place < length entries → length entries < 2 ^ 32 → (feed : ℕ) → last_place feed asks + 1 < 2 ^ 32
noted_room actor entries asks place noted count l few feed =
    let front : List Entry = take (length asks) entries in
    let last : last_place feed asks ≡ length (arrivals_from (Feed feed) front) = ap (last_place feed) noted.same ∙ last_is feed actor front in
    let most = few_from (Feed feed) front in
    let size : length front ≡ length asks = length-take-le (length asks) entries noted.few in
    omega arith

pub noted_grow : (actor : ℕ) (entries more : List Entry) (asks : List (Option Ask)) → AreNoted actor entries asks → AreNoted actor (entries ++ more) asks
noted_grow actor entries more asks noted =
    let sum : length (entries ++ more) ≡ length entries + length more = length-append entries more in
    record {
      few = omega (arith, noted.few);
      same = noted.same ∙ ap (asks_of actor) (sym (take-append-le (length asks) entries more noted.few));
    }
