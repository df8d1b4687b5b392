-- The posts of a feed fit the plan.
use Rattle.std.proofs.Common.{◌≡◌, ℕ, zero, suc, ◌+◌, ◌-◌, ◌^◌, ◌<◌, ◌≤◌, Bool, true, false, cond, List, [], ◌∷◌, length, map, Option, None, Some, refl, sym, ap, ◌∙◌, subst, arith, pos}
use Rattle.std.specs.Prelude.{ℤ, neg_ℤ, FitsSigned, nat_le, nat_lt, not, ◌&&◌, ◌==◌, slice_get, slice_index, drop, if◌then◌else◌, Result, Ok, Err, IfOk, IfSome}
use Rattle.std.specs.Int.{w64}
use Rattle.std.specs.List.{AllByRecursion}
use Rattle.std.specs.Option.{ok_or, option_map}
use Rattle.std.specs.Str.{is_utf8}
use Rattle.std.proofs.lemmas.Bool.Decides.{nat_tests}
use Rattle.std.proofs.lemmas.Option.{slice_get-map}
use Rattle.std.proofs.lemmas.List.{length-map}
use Rattle.std.proofs.lemmas.Str.{IsUtf8-from_is_utf8}
use Rattle.join_base.specs.Integer.{are_digits, integer_of, natural_of, negative, positive, value_of as digits_value}
use Rattle.join_base.specs.declared.message.Sort.{Sort}
use Rattle.join_base.specs.declared.message.Sort.TheVariants as sort
use Rattle.join_base.specs.declared.message.Value.{Value}
use Rattle.join_base.specs.declared.message.Value.TheVariants as value
use Rattle.join_base.specs.declared.message.Message.{Message}
use Rattle.script_names.specs.Names.{number_of}
use Rattle.script_names.proofs.NameLemmas.{number_within}
use Rattle.script_types.specs.Typed.{field_types}
use Rattle.script_types.specs.declared.plan.ActorPlan.{ActorPlan}
use Rattle.script_types.specs.declared.plan.Plan.{Plan}
use Rattle.sensor_feed.specs.Feed.{Post, Record, actor_names, counted_values, feed_of, kind_names, message_at, message_of, message_with, post_of, posts_from, records_of, value_of, values_of, with_post}
use Rattle.fair_semantics.specs.Fits.{MessageFits, PostFits, ValueFits}
use Rattle.fair_semantics.specs.Step.{are_of_sorts, fits_sorts}
use Rattle.sensor_feed.specs.Gives.{GivesPosts}
use Rattle.sensor_feed.specs.Reads.{map_ok, then_ok}
use Rattle.sensor_feed.specs.declared.fault.FeedCause.{FeedCause}
use Rattle.sensor_feed.specs.declared.fault.FeedCause.TheVariants.{BadInt, NotText, TooLong, UnknownActor, UnknownMessage, WrongCount}
use Rattle.sensor_feed.specs.declared.fault.FeedFault.{FeedFault}

-- ---- what a value that is there tells of its parts

record IsMapped {X Y E : Type 0} (f : X → Y) (given : Result X E) (y : Y) : Type 0 where
  pub first : X
  pub value : given ≡ Ok first
  pub result : f first ≡ y

mapped : {X Y E : Type 0} (f : X → Y) (given : Result X E) (y : Y) → map_ok f given ≡ Ok y → IsMapped f given y
mapped f (Ok x) y is = record { first = x; value = refl; result = cc }
mapped f (Err fault) y is = absurd cc

record IsThen {X Y E : Type 0} (f : X → Result Y E) (given : Result X E) (y : Y) : Type 0 where
  pub first : X
  pub value : given ≡ Ok first
  pub result : f first ≡ Ok y

then_given : {X Y E : Type 0} (f : X → Result Y E) (given : Result X E) (y : Y) → then_ok f given ≡ Ok y → IsThen f given y
then_given f (Ok x) y is = record { first = x; value = refl; result = is }
then_given f (Err fault) y is = absurd cc

found_of : {X E : Type 0} (o : Option X) (fault : E) (x : X) → ok_or o fault ≡ Ok x → o ≡ Some x
found_of None fault x is = absurd cc
found_of (Some y) fault x is = cc

-- ---- integers

natural_small : (max : ℕ) (text : List ℕ) (n : ℕ) → natural_of max text ≡ Some n → n ≤ max
natural_small max text n is = by-test (are_digits text) (nat_le (digits_value text) max) refl is
  where
    by-test : (a b : Bool) → nat_le (digits_value text) max ≡ b → cond (a && b) (Some (digits_value text)) None ≡ Some n → n ≤ max
    by-test true true small e =
        let same : digits_value text ≡ n = cc in
        let below : digits_value text ≤ max = grind (arith, nat_tests) in
        subst (λ (k : ℕ). k ≤ max) same below
    by-test true false small e = absurd cc
    by-test false b small e = absurd cc

negative_fits : (n : ℕ) → n ≤ 2 ^ 63 → FitsSigned w64 (neg_ℤ (pos n))
negative_fits zero small = record { sfits = omega arith }
negative_fits (suc n) small = record { sfits = omega arith }

fits_negative : (found : Option ℕ) (z : ℤ) → ((n : ℕ) → found ≡ Some n → n ≤ 2 ^ 63) → negative found ≡ Some z → FitsSigned w64 z
fits_negative None z small is = absurd cc
fits_negative (Some n) z small is = let e : neg_ℤ (pos n) ≡ z = cc in subst (FitsSigned w64) e (negative_fits n (small n refl))

fits_positive : (found : Option ℕ) (z : ℤ) → ((n : ℕ) → found ≡ Some n → n ≤ 2 ^ 63 - 1) → positive found ≡ Some z → FitsSigned w64 z
fits_positive None z small is = absurd cc
fits_positive (Some n) z small is =
    let e : pos n ≡ z = cc in
    let below : n ≤ 2 ^ 63 - 1 = small n refl in
    subst (FitsSigned w64) e (record { sfits = omega arith })

fits_by : (text : List ℕ) (z : ℤ) (b : Bool) → (if b then negative (natural_of (2 ^ 63) (drop 1 text)) else positive (natural_of (2 ^ 63 - 1) text)) ≡ Some z → FitsSigned w64 z
fits_by text z true is = fits_negative (natural_of (2 ^ 63) (drop 1 text)) z (natural_small (2 ^ 63) (drop 1 text)) is
fits_by text z false is = fits_positive (natural_of (2 ^ 63 - 1) text) z (natural_small (2 ^ 63 - 1) text) is

integer_fits : (text : List ℕ) (z : ℤ) → integer_of text ≡ Some z → FitsSigned w64 z
integer_fits text z is = fits_by text z (slice_index text 0 == 45) is

-- ---- values

abbrev type_of_value : Value → Sort
type_of_value (value.Int n) = sort.Int
type_of_value (value.Words bytes) = sort.Words

-- values are of their own types
of_own_types : (values : List Value) → are_of_sorts (map type_of_value values) values ≡ true
of_own_types [] = refl
of_own_types (value.Int n ∷ values) = of_own_types values
of_own_types (value.Words bytes ∷ values) = of_own_types values

record FitsType (type : Sort) (v : Value) : Type 0 where
  pub of_type : type_of_value v ≡ type
  pub fits : ValueFits v

words_fit : (field : List ℕ) (v : Value) (a b : Bool) → is_utf8 field ≡ a → nat_lt 120 (length field) ≡ b
    → cond (not a) (Err NotText) (cond b (Err TooLong) (Ok (value.Words field))) ≡ Ok v → FitsType sort.Words v
words_fit field v false b utf8 long is = absurd cc
words_fit field v true true utf8 long is = absurd cc
words_fit field v true false utf8 long is =
    let e : value.Words field ≡ v = cc in
    let short : length field ≤ 120 = grind (arith, nat_tests) in
    subst (FitsType sort.Words) e (record { of_type = refl; fits = record { utf8 = IsUtf8-from_is_utf8 field utf8; short = short } })

value_fits : (type : Sort) (field : List ℕ) (v : Value) → value_of type field ≡ Ok v → FitsType type v
value_fits sort.Int field v is =
    let m = mapped (λ (n : ℤ). value.Int n) (ok_or {E = FeedCause} (integer_of field) BadInt) v is in
    subst (FitsType sort.Int) m.result (record { of_type = refl; fits = integer_fits field m.first (found_of (integer_of field) BadInt m.first m.value) })
value_fits sort.Words field v is = words_fit field v (is_utf8 field) (nat_lt 120 (length field)) refl refl is

record FitTypes (types : List Sort) (values : List Value) : Type 0 where
  pub of_types : types ≡ map type_of_value values
  pub fit : AllByRecursion ValueFits values

values_fit : (types : List Sort) (fields : List (List ℕ)) (values : List Value) → length fields ≡ length types → values_of types fields ≡ Ok values → FitTypes types values
values_fit [] [] values many is = let e : [] ≡ values = cc in subst (FitTypes []) e (record { of_types = refl; fit = tt })
values_fit [] (field ∷ fields) values many is = absurd (omega arith)
values_fit (type ∷ types) [] values many is = absurd (omega arith)
values_fit (type ∷ types) (field ∷ fields) values many is =
    let t = then_given (λ (first : Value). map_ok (λ (others : List Value). first ∷ others) (values_of types fields)) (value_of type field) values is in
    let m = mapped (λ (others : List Value). t.first ∷ others) (values_of types fields) values t.result in
    let one = value_fits type field t.first t.value in
    let more = values_fit types fields m.first (omega arith) m.value in
    subst (FitTypes (type ∷ types)) m.result (record {
      of_types = ap (λ (s : Sort). s ∷ types) (sym one.of_type) ∙ ap (λ (ss : List Sort). type_of_value t.first ∷ ss) more.of_types;
      fit = (one.fits, more.fit);
    })

counted_fit : (types : List Sort) (fields : List (List ℕ)) (values : List Value) → counted_values types fields ≡ Ok values → FitTypes types values
counted_fit types fields values is = by-test (length fields == length types) refl is
  where
    by-test : (b : Bool) → (length fields == length types) ≡ b → cond b (values_of types fields) (Err WrongCount) ≡ Ok values → FitTypes types values
    by-test true many e = let count : length fields ≡ length types = grind (arith, nat_tests) in values_fit types fields values count e
    by-test false many e = absurd cc

-- ---- posts

module _ (plan : Plan) where
  message_fits : (fields : List (List ℕ)) (message : Message) → message_of plan fields ≡ Ok message → MessageFits plan message
  message_fits [] message is = absurd cc
  message_fits (name ∷ fields) message is =
      let t = then_given (message_at plan.kinds fields) (ok_or {E = FeedCause} (number_of name (kind_names plan)) UnknownMessage) message is in
      let k = then_given (message_with t.first fields) (ok_or {E = FeedCause} (slice_get plan.kinds t.first) UnknownMessage) message t.result in
      let m = mapped (λ (values : List Value). record { kind = t.first; fields = values }) (counted_values (field_types k.first) fields) message k.result in
      let fit = counted_fit (field_types k.first) fields m.first m.value in
      let at = found_of (slice_get plan.kinds t.first) UnknownMessage k.first k.value in
      subst (MessageFits plan) m.result (record {
        kind = ap (λ (ss : Option (List Sort)). fits_sorts ss m.first) (slice_get-map field_types plan.kinds t.first ∙ ap (option_map field_types) at ∙ ap (λ (ss : List Sort). Some ss) fit.of_types) ∙ of_own_types m.first;
        values = fit.fit;
      })

  actor_within : (name : List ℕ) (o : Option ℕ) (number : ℕ) → number_of name (actor_names plan) ≡ o → o ≡ Some number → number < length plan.actors
  actor_within name o number is found =
      let within : number < length (actor_names plan) = subst (λ (p : Option ℕ). IfSome p (λ n. n < length (actor_names plan))) (is ∙ found) (number_within name (actor_names plan)) in
      let count = length-map plan.actors (λ (actor : ActorPlan). actor.name) in
      omega (arith, within, count)

  post_fits : (record_ : Record) (post : Post) → post_of plan record_ ≡ Ok post → PostFits plan post
  post_fits [] post is = absurd cc
  post_fits (name ∷ fields) post is =
      let t = then_given (λ (actor : ℕ). map_ok (λ (message : Message). (actor, message)) (message_of plan fields)) (ok_or {E = FeedCause} (number_of name (actor_names plan)) UnknownActor) post is in
      let m = mapped (λ (message : Message). (t.first, message)) (message_of plan fields) post t.result in
      subst (PostFits plan) m.result (record {
        actor = actor_within name (number_of name (actor_names plan)) t.first refl (found_of (number_of name (actor_names plan)) UnknownActor t.first t.value);
        message = message_fits fields m.first m.value;
      })

  posts_fit : (row : ℕ) (records : List Record) (posts : List Post) → posts_from plan row records ≡ Ok posts → AllByRecursion (PostFits plan) posts
  posts_fit row [] posts is = let e : [] ≡ posts = cc in subst (AllByRecursion (PostFits plan)) e tt
  posts_fit row (first ∷ others) posts is = by-post (post_of plan first) refl is (λ more e. posts_fit (suc row) others more e)
    where
      next : posts_from plan (row + 1) others ≡ posts_from plan (suc row) others
      next = let e : row + 1 ≡ suc row = omega arith in ap (λ n. posts_from plan n others) e

      by-post : (p : Result Post FeedCause) → post_of plan first ≡ p → with_post row p (posts_from plan (row + 1) others) ≡ Ok posts
          → ((more : List Post) → posts_from plan (suc row) others ≡ Ok more → AllByRecursion (PostFits plan) more) → AllByRecursion (PostFits plan) posts
      by-post (Err cause) given e fit = absurd cc
      by-post (Ok post) given e fit =
          let m = mapped (λ (more : List Post). post ∷ more) (posts_from plan (row + 1) others) posts e in
          subst (AllByRecursion (PostFits plan)) m.result (post_fits first post given, fit m.first (sym next ∙ m.value))

  pub answer_fits : (bytes : List ℕ) (result : Result (List Post) FeedFault) → GivesPosts result (feed_of plan bytes) → IfOk result (AllByRecursion (PostFits plan))
  answer_fits bytes (Ok posts) is = posts_fit 1 (records_of bytes) posts is
  answer_fits bytes (Err fault) is = tt
