-- What is left of feeds: a post that arrived, and the posts of one list after the other.
use Rattle.std.proofs.Common.{◌≡◌, ◌∙◌, inr, ℕ, zero, suc, ◌+◌, ◌<◌, ◌≤◌, List, [], ◌∷◌, ◌++◌, length, set, take, Bool, true, false, Option, None, Some, slice_get, refl, ap, sym, subst, arith, append_assoc}
use Rattle.std.specs.Prelude.{if◌then◌else◌, ◌==◌, ◌&&◌}
use Rattle.std.specs.List.{cons_option, filter_map, sum_by}
use Rattle.std.proofs.lemmas.List.Sums.{sum_by_push}
use Rattle.std.proofs.lemmas.List.{append-nil, length-set}
use Rattle.std.proofs.lemmas.List.Elements.{filter_map-append}
use Rattle.std.proofs.lemmas.Option.{slice_get_within}
use Rattle.join_base.specs.declared.message.Message.{Message}
use Rattle.join_base.specs.declared.message.Source.TheVariants.{Feed, Actor}
use Rattle.join_base.specs.declared.message.Stamped.{Stamped}
use Rattle.fair_semantics.specs.Linked.{feed_posts, post_for}
use Rattle.run_order_law.proofs.EventLemmas.{same_number}
use Rattle.run_order_law.proofs.SourceLemmas.{is_itself, not_equal}
use Rattle.actor_turn.specs.Held.{Held}
use Rattle.pool_settling.specs.Standing.{StandsBy, feed_count}
use Rattle.pool_settling.specs.Ends.{GoOn}
use Rattle.pool_settling.specs.Rounds.{AreMembers, Came, HaveFeeds, IsFedMore, IsFedRest, StandAs, StandFed, fed_more, fed_rest}
use Rattle.pool_settling.specs.Work.{all_weight}
use Rattle.pool_settling.proofs.EndLemmas.{go_trans}
use Rattle.pool_settling.proofs.StandLemmas.{Steps, stepped, stepped_on, stepped_weight}
use Rattle.pool_settling.proofs.BringLemmas.{came_here, came_other, each_set, go_set, members_set, one_came, other_is, stands_to, step_boxes, there, weight_set}

abbrev Fed : Type 0
Fed = ℕ → ℕ → List Stamped

pub fed_same : (fed these : Fed) (helds : List Held) → ((actor feed : ℕ) → actor < length helds → these actor feed ≡ fed actor feed) → StandFed fed helds → StandFed these helds
fed_same fed these helds same s = record { came = s.came; from_feeds = λ actor feed l. s.from_feeds actor feed l ∙ sym (same actor feed l); stand = s.stand }

-- ---- feeds stay

pub have_on : (feeds : ℕ) (olds nows : List Held) → HaveFeeds feeds olds → GoOn olds nows → HaveFeeds feeds nows
have_on feeds olds nows have on actor held is =
    let l = slice_get_within nows actor held is in
    let n = on.count in
    let w = there olds actor (omega (arith, l, n)) in
    let same = (on.each actor w.0 held w.1 is).feeds in
    let few = have actor w.0 w.1 in
    omega (arith, same, few)

-- ---- a post that arrived

module _ (helds : List Held) (members : AreMembers helds) (target feed : ℕ) (post : Stamped) (b c : Held) (here : slice_get helds target ≡ Some b) (step : Steps (Feed feed) post b c) (some : 1 ≤ feed) (known : feed ≤ feed_count b) where
  abbrev last : List Held
  last = set helds target c

  pub fed_on : GoOn helds last
  fed_on = go_set helds target b c here (stepped_on (Feed feed) post b c step)

  pub fed_members : AreMembers last
  fed_members = members_set helds target b c here members (stepped_on (Feed feed) post b c step) (step_boxes (Feed feed) post b c step)

  pub fed_weight : all_weight last ≤ all_weight helds + 1
  fed_weight =
      let sums = weight_set helds target b c here in
      let one = stepped_weight (Feed feed) post b c step (members target b here).small in
      omega (arith, sums, one)

  -- this came from the feed to the target
  abbrev more : Fed → Fed
  more fed actor other = if (feed == other) && (target == actor) then fed actor other ++ post ∷ [] else fed actor other

  module _ (fed : Fed) (s : StandFed fed helds) where
    abbrev now : Came
    now = one_came s.came (Feed feed) target post

    fed_stand : StandAs now (λ actor other. now other (Actor actor)) last
    fed_stand = each_set helds target b c here (λ actor held. StandsBy (now actor) (λ other. now other (Actor actor)) held)
        (λ actor held o is. stands_to (s.came actor) (now actor) (λ other. s.came other (Actor actor)) (λ other. now other (Actor actor)) held (came_other s.came (Feed feed) target post actor o) (λ other. refl) (s.stand actor held is))
        (stepped (Feed feed) post b c step (s.came target) (now target) (λ other. now other (Actor target)) (s.stand target b here) (some, known) (came_here s.came (Feed feed) target post))

    pub one_fed : StandFed (more fed) last
    one_fed = record {
      came = now;
      from_feeds = λ actor other l. ap (λ (ps : List Stamped). if (feed == other) && (target == actor) then ps ++ post ∷ [] else ps) (s.from_feeds actor other (subst (λ (n : ℕ). actor < n) (length-set helds target c) l));
      stand = fed_stand;
    }

-- ---- one post of a list

more_posts : (xs : List (ℕ × Message)) (x : ℕ × Message) (actor : ℕ) (start : List Stamped)
    → start ++ filter_map (post_for actor) (xs ++ x ∷ []) ≡ (if x.0 == actor then (start ++ filter_map (post_for actor) xs) ++ record { message = x.1; stamp = 0 } ∷ [] else start ++ filter_map (post_for actor) xs)
more_posts xs x actor start = ap (λ (ps : List Stamped). start ++ ps) (filter_map-append (post_for actor) xs (x ∷ [])) ∙ by (x.0 == actor)
  where
    by : (b : Bool) → start ++ (filter_map (post_for actor) xs ++ cons_option (if b then Some (record { message = x.1; stamp = 0 }) else None) [])
        ≡ (if b then (start ++ filter_map (post_for actor) xs) ++ record { message = x.1; stamp = 0 } ∷ [] else start ++ filter_map (post_for actor) xs)
    by true = sym (append_assoc start (filter_map (post_for actor) xs) (record { message = x.1; stamp = 0 } ∷ []))
    by false = ap (λ (ps : List Stamped). start ++ ps) (append-nil (filter_map (post_for actor) xs))

take_next : {X : Type 0} (xs : List X) (k : ℕ) (x : X) → slice_get xs k ≡ Some x → take (k + 1) xs ≡ take k xs ++ x ∷ []
take_next [] k x e = absurd cc
take_next {X} (y ∷ xs) zero x e = let same : y ≡ x = cc in ap (λ (z : X). z ∷ []) same
take_next {X} (y ∷ xs) (suc k) x e = let n : suc k + 1 ≡ suc (k + 1) = omega arith in ap (λ (m : ℕ). take m (y ∷ xs)) n ∙ ap (λ (zs : List X). y ∷ zs) (take_next xs k x e)

module _ (feed : ℕ) (posts : List (ℕ × Message)) (place : ℕ) (x : ℕ × Message) (at : slice_get posts place ≡ Some x) (olds helds : List Held) (before : IsFedMore feed (take place posts) olds helds) where
  abbrev done : Fed → Fed
  done fed = fed_more feed (take place posts) fed

  next_is : (fed : Fed) (actor other : ℕ) → fed_more feed (take (place + 1) posts) fed actor other ≡ (if (feed == other) && (x.0 == actor) then done fed actor other ++ record { message = x.1; stamp = 0 } ∷ [] else done fed actor other)
  next_is fed actor other = ap (λ (xs : List (ℕ × Message)). fed_more feed xs fed actor other) (take_next posts place x at) ∙ by (feed == other)
    where
      by : (b : Bool) → (if b then fed actor other ++ filter_map (post_for actor) (take place posts ++ x ∷ []) else fed actor other)
          ≡ (if b && (x.0 == actor) then (if b then fed actor other ++ filter_map (post_for actor) (take place posts) else fed actor other) ++ record { message = x.1; stamp = 0 } ∷ [] else (if b then fed actor other ++ filter_map (post_for actor) (take place posts) else fed actor other))
      by true = more_posts (take place posts) x actor (fed actor other)
      by false = refl

  pub fed_one : (members : AreMembers helds) (b c : Held) → slice_get helds x.0 ≡ Some b → Steps (Feed feed) record { message = x.1; stamp = 0 } b c → 1 ≤ feed → feed ≤ feed_count b → IsFedMore feed (take (place + 1) posts) olds (set helds x.0 c)
  fed_one members b c here step some known fed s =
      fed_same _ (fed_more feed (take (place + 1) posts) fed) (set helds x.0 c) (λ actor other l. next_is fed actor other) (one_fed helds members x.0 feed record { message = x.1; stamp = 0 } b c here step some known (done fed) (before fed s))

  -- a post for no actor
  pub fed_skip : length helds ≤ x.0 → IsFedMore feed (take (place + 1) posts) olds helds
  fed_skip past fed s = fed_same (done fed) (fed_more feed (take (place + 1) posts) fed) helds same (before fed s)
    where
      same : (actor other : ℕ) → actor < length helds → fed_more feed (take (place + 1) posts) fed actor other ≡ done fed actor other
      same actor other l = next_is fed actor other ∙ by (feed == other) (x.0 == actor) (other_is x.0 actor (λ e. omega (arith, l, past, e)))
        where
          by : (b c : Bool) → c ≡ false → (if b && c then done fed actor other ++ record { message = x.1; stamp = 0 } ∷ [] else done fed actor other) ≡ done fed actor other
          by true c e = ap (λ (d : Bool). if d then done fed actor other ++ record { message = x.1; stamp = 0 } ∷ [] else done fed actor other) e
          by false c e = refl

-- the first posts of the feed came
pub record Feeds (feed count : ℕ) (posts : List (ℕ × Message)) (olds nows : List Held) : Type 0 where
  pub members : AreMembers nows
  pub have : HaveFeeds feed nows
  pub fed : IsFedMore feed (take count posts) olds nows
  pub on : GoOn olds nows
  pub weight : all_weight nows ≤ all_weight olds + count

module _ (feed place : ℕ) (posts : List (ℕ × Message)) (x : ℕ × Message) (at : slice_get posts place ≡ Some x) (olds helds : List Held) (before : Feeds feed place posts olds helds) where
  pub feeds_one : (b c : Held) → slice_get helds x.0 ≡ Some b → Steps (Feed feed) record { message = x.1; stamp = 0 } b c → 1 ≤ feed → Feeds feed (place + 1) posts olds (set helds x.0 c)
  feeds_one b c here step some =
      let on = fed_on helds before.members x.0 feed record { message = x.1; stamp = 0 } b c here step some (before.have x.0 b here) in
      record {
        members = fed_members helds before.members x.0 feed record { message = x.1; stamp = 0 } b c here step some (before.have x.0 b here);
        have = have_on feed helds (set helds x.0 c) before.have on;
        fed = fed_one feed posts place x at olds helds before.fed before.members b c here step some (before.have x.0 b here);
        on = go_trans olds helds (set helds x.0 c) before.on on;
        weight = (let so_far = before.weight in let one = fed_weight helds before.members x.0 feed record { message = x.1; stamp = 0 } b c here step some (before.have x.0 b here) in omega (arith, so_far, one));
      }

  pub feeds_skip : length helds ≤ x.0 → Feeds feed (place + 1) posts olds helds
  feeds_skip past = record { members = before.members; have = before.have; fed = fed_skip feed posts place x at olds helds before.fed past; on = before.on; weight = (let so_far = before.weight in omega (arith, so_far)) }

-- ---- one list after the other

pub more_rest : (rest : List (List (ℕ × Message))) (n : ℕ) (posts : List (ℕ × Message)) (a b c : ℕ) → slice_get rest n ≡ Some posts → b ≤ a + sum_by length (take n rest) → c ≤ b + length posts → c ≤ a + sum_by length (take (n + 1) rest)
more_rest rest n posts a b c at first later =
    let whole : sum_by length (take (n + 1) rest) ≡ sum_by length (take n rest) + length posts = ap (λ (ls : List (List (ℕ × Message))). sum_by length ls) (take_next rest n posts at) ∙ sum_by_push length (take n rest) posts in
    omega (arith, first, later, whole)

take_last : {X : Type 0} (xs : List X) (n : ℕ) (x : X) → slice_get xs n ≡ Some x → slice_get (take (suc n) xs) n ≡ Some x
take_last [] n x e = absurd cc
take_last (y ∷ xs) zero x e = e
take_last (y ∷ xs) (suc n) x e = take_last xs n x e

take_past : {X : Type 0} (xs : List X) (n : ℕ) → slice_get (take n xs) n ≡ None
take_past xs zero = refl
take_past [] (suc n) = refl
take_past (x ∷ xs) (suc n) = take_past xs n

take_other : {X : Type 0} (xs : List X) (n k : ℕ) → ¬ (k ≡ n) → slice_get (take (suc n) xs) k ≡ slice_get (take n xs) k
take_other [] zero k o = refl
take_other [] (suc n) k o = refl
take_other (x ∷ xs) zero zero o = absurd (o refl)
take_other (x ∷ xs) zero (suc k) o = refl
take_other (x ∷ xs) (suc n) zero o = refl
take_other (x ∷ xs) (suc n) (suc k) o = take_other xs n k (λ e. o (ap suc e))

module _ (rest : List (List (ℕ × Message))) (n : ℕ) (posts : List (ℕ × Message)) (at : slice_get rest n ≡ Some posts) where
  rest_next : (fed : Fed) (actor other : ℕ) → fed_rest (take (suc n) rest) fed actor other ≡ fed_more (suc n) posts (fed_rest (take n rest) fed) actor other
  rest_next fed actor zero = sym (ap (λ (b : Bool). if b then fed actor zero ++ filter_map (post_for actor) posts else fed actor zero) (not_equal (suc n) 0 (inr (omega arith))))
  rest_next fed actor (suc k) = by (suc n == suc k) refl
    where
      by : (b : Bool) → (suc n == suc k) ≡ b → fed_rest (take (suc n) rest) fed actor (suc k) ≡ (if b then fed_rest (take n rest) fed actor (suc k) ++ filter_map (post_for actor) posts else fed_rest (take n rest) fed actor (suc k))
      by true e =
          let same : n ≡ k = (let s = same_number (suc n) (suc k) e in omega (arith, s)) in
          let last : slice_get (take (suc n) rest) k ≡ Some posts = ap (slice_get (take (suc n) rest)) (sym same) ∙ take_last rest n posts at in
          let none : slice_get (take n rest) k ≡ None = ap (slice_get (take n rest)) (sym same) ∙ take_past rest n in
          ap (λ (o : Option (List (ℕ × Message))). fed actor (suc k) ++ feed_posts actor o) last
          ∙ ap (λ (ps : List Stamped). ps ++ filter_map (post_for actor) posts) (sym (append-nil (fed actor (suc k))) ∙ ap (λ (o : Option (List (ℕ × Message))). fed actor (suc k) ++ feed_posts actor o) (sym none))
      by false e = ap (λ (o : Option (List (ℕ × Message))). fed actor (suc k) ++ feed_posts actor o) (take_other rest n k other)
        where
          other : ¬ (k ≡ n)
          other same = let clash : true ≡ false = sym (is_itself (suc n)) ∙ ap (λ (m : ℕ). suc n == suc m) (sym same) ∙ e in absurd cc

  pub rest_more : (olds helds nows : List Held) → IsFedRest (take n rest) olds helds → IsFedMore (n + 1) posts helds nows → IsFedRest (take (n + 1) rest) olds nows
  rest_more olds helds nows first later =
      let is : suc n ≡ n + 1 = omega arith in
      let now : IsFedMore (suc n) posts helds nows = subst (λ (m : ℕ). IsFedMore m posts helds nows) (sym is) later in
      subst (λ (m : ℕ). IsFedRest (take m rest) olds nows) is
      (λ fed s. fed_same (fed_more (suc n) posts (fed_rest (take n rest) fed)) (fed_rest (take (suc n) rest) fed) nows (λ actor other l. rest_next fed actor other) (now (fed_rest (take n rest) fed) (first fed s)))
