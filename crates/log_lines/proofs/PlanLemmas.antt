-- Actors, kinds, sources and messages that are read, against their text.
use Rattle.std.proofs.Common.{◌≡◌, ◌∙◌, ℕ, zero, suc, ◌^◌, ◌<◌, true, false, List, [], ◌∷◌, ◌++◌, length, map, Option, None, Some, refl, sym, ap, subst, append_assoc, arith}
use Rattle.std.specs.Prelude.{codes, slice_get}
use Rattle.std.specs.List.{AllByRecursion}
use Rattle.std.specs.Fmt.{decimal}
use Rattle.std.specs.Option.{option_map}
use Rattle.std.proofs.lemmas.Option.{slice_get-map}
use Rattle.join_base.specs.Text.{goes_on_word, is_name}
use Rattle.join_base.specs.declared.message.Sort.{Sort}
use Rattle.join_base.specs.declared.message.Source.{Source}
use Rattle.join_base.specs.declared.message.Source.TheVariants.{Feed, Actor}
use Rattle.join_base.specs.declared.message.Value.{Value}
use Rattle.join_base.specs.declared.message.Message.{Message}
use Rattle.script_types.specs.declared.plan.Plan.{Plan}
use Rattle.script_types.specs.declared.plan.Kind.{Kind}
use Rattle.script_types.specs.declared.plan.ActorPlan.{ActorPlan}
use Rattle.script_types.specs.Typed.{IsTyped, field_types, kind_types}
use Rattle.fair_semantics.specs.Step.{are_of_sorts, fits, fits_sorts}
use Rattle.fair_semantics.specs.Fits.{MessageFits, SourceFits}
use Rattle.arrival_log.specs.LogText.{message_text, source_text}
use Rattle.script_types.specs.Names.{actor_name, kind_name, name_of_actor, name_of_kind}
use Rattle.log_lines.specs.Gives.{◌>>=◌}
use Rattle.log_lines.specs.Cut.{after, cut, lacks}
use Rattle.log_lines.specs.Numbers.{count_of}
use Rattle.log_lines.specs.Messages.{actor_of, behind_or, feed_at, fields_of, kind_of, message_of, message_with, sender_at, source_at}
use Rattle.log_lines.proofs.OptionLemmas.{then_is}
use Rattle.log_lines.proofs.CutLemmas.{after_again, after_takes, cut_again, cut_takes}
use Rattle.log_lines.proofs.NumberLemmas.{count_again, count_takes, decimal_lacks}
use Rattle.log_lines.proofs.NameLemmas.{name_again, name_lacks, name_takes}
use Rattle.log_lines.proofs.FieldLemmas.{fields_again, fields_takes, fields_text}
use Rattle.log_lines.proofs.MessageLemmas.{made}

-- what holds of each name holds of one
pub each_name : {X : Type 0} (name : X → List ℕ) (xs : List X) (i : ℕ) (x : X) → slice_get xs i ≡ Some x → AllByRecursion (λ n. is_name n ≡ true) (map name xs) → is_name (name x) ≡ true
each_name name [] i x at all = absurd cc
each_name name (y ∷ ys) zero x at all = let same : y ≡ x = cc in subst (λ (z : _). is_name (name z) ≡ true) same all.0
each_name name (y ∷ ys) (suc i) x at all = each_name name ys i x at all.1

get_within : {X : Type 0} (xs : List X) (i : ℕ) → i < length xs → (x : X) × (slice_get xs i ≡ Some x)
get_within [] i within = absurd (omega arith)
get_within (x ∷ xs) zero within = (x, refl)
get_within (x ∷ xs) (suc i) within = get_within xs i (omega arith)

no_feed : (rest : List ℕ) → after (codes "feed ") (codes "actor " ++ rest) ≡ None
unfolding after
no_feed rest = refl

module _ (plan : Plan) (typed : IsTyped plan) where
  -- ---- actors

  pub actor_again : (a : ℕ) → a < length plan.actors → actor_of plan (name_of_actor plan a) ≡ Some a
  unfolding actor_of
  actor_again a within =
      let item = get_within plan.actors a within in
      ap (λ (o : Option ActorPlan). actor_of plan (actor_name o)) item.1
      ∙ name_again (λ (actor : ActorPlan). actor.name) plan.actors a item.0 item.1 typed.actor_names.apart

  pub actor_lacks : (byte a : ℕ) → goes_on_word byte ≡ false → a < length plan.actors → lacks byte (name_of_actor plan a) ≡ true
  actor_lacks byte a other within =
      let item = get_within plan.actors a within in
      ap (λ (o : Option ActorPlan). lacks byte (actor_name o)) item.1
      ∙ name_lacks byte (item.0.name) other (each_name (λ (actor : ActorPlan). actor.name) plan.actors a item.0 item.1 typed.actor_names.each)

  pub record TakesActor (text : List ℕ) (a : ℕ) : Type 0 where
    pub within : a < length plan.actors
    pub is : text ≡ name_of_actor plan a

  pub actor_takes : (text : List ℕ) (a : ℕ) → actor_of plan text ≡ Some a → TakesActor text a
  unfolding actor_of
  actor_takes text a is =
      let found = name_takes (λ (actor : ActorPlan). actor.name) plan.actors text a is in
      record { within = found.within; is = sym (ap actor_name found.at ∙ found.called) }

  -- ---- sources

  pub source_again : (feeds : ℕ) (source : Source) (rest : List ℕ) → feeds < 2 ^ 32 → SourceFits plan feeds source → source_at plan feeds (source_text plan source ++ 32 ∷ rest) ≡ Some (source, rest)
  unfolding source_at feed_at sender_at
  source_again feeds (Feed k) rest small fits =
      ap (source_at plan feeds) (append_assoc (codes "feed ") (decimal k) (32 ∷ rest))
      ∙ ap (λ (o : Option (List ℕ)). behind_or o (feed_at feeds) (behind_or (after (codes "actor ") (codes "feed " ++ (decimal k ++ 32 ∷ rest))) (sender_at plan) None)) (after_again (codes "feed ") (decimal k ++ 32 ∷ rest))
      ∙ ap (λ (o : Option (List ℕ × List ℕ)). o >>= λ p. count_of feeds (p.0) >>= λ k. Some (Feed k, p.1)) (cut_again 32 (decimal k) rest (decimal_lacks 32 k refl (omega (arith, fits.1))))
      ∙ ap (λ (o : Option ℕ). o >>= λ k. Some (Feed k, rest)) (count_again feeds k fits.0 fits.1 (omega (arith, fits.1)))
  source_again feeds (Actor a) rest small fits =
      let name : List ℕ = name_of_actor plan a in
      ap (source_at plan feeds) (append_assoc (codes "actor ") name (32 ∷ rest))
      ∙ ap (λ (o : Option (List ℕ)). behind_or o (feed_at feeds) (behind_or (after (codes "actor ") (codes "actor " ++ (name ++ 32 ∷ rest))) (sender_at plan) None)) (no_feed (name ++ 32 ∷ rest))
      ∙ ap (λ (o : Option (List ℕ)). behind_or o (sender_at plan) None) (after_again (codes "actor ") (name ++ 32 ∷ rest))
      ∙ ap (λ (o : Option (List ℕ × List ℕ)). o >>= λ p. actor_of plan (p.0) >>= λ a. Some (Actor a, p.1)) (cut_again 32 name rest (actor_lacks 32 a refl fits))
      ∙ ap (λ (o : Option ℕ). o >>= λ a. Some (Actor a, rest)) (actor_again a fits)

  pub record TakesSource (feeds : ℕ) (text : List ℕ) (p : Source × List ℕ) : Type 0 where
    pub fits : SourceFits plan feeds (p.0)
    pub split : text ≡ source_text plan (p.0) ++ 32 ∷ p.1

  feed_takes : (feeds : ℕ) (text : List ℕ) (p : Source × List ℕ) → feeds < 2 ^ 32 → feed_at feeds text ≡ Some p → TakesSource feeds (codes "feed " ++ text) p
  unfolding feed_at
  feed_takes feeds text p small is =
      let parts = then_is (cut 32 text) (λ p. count_of feeds (p.0) >>= λ k. Some (Feed k, p.1)) p is in
      let number = then_is (count_of feeds (parts.first.0)) (λ k. Some (Feed k, parts.first.1)) p parts.result in
      let taken = cut_takes 32 text parts.first parts.is in
      let count = count_takes feeds (parts.first.0) number.first (omega arith) number.is in
      let same : (Feed number.first, parts.first.1) ≡ p = let e = number.result in cc in
      subst (TakesSource feeds (codes "feed " ++ text)) same (record {
        fits = (count.above, count.below);
        split = ap (λ (l : List ℕ). codes "feed " ++ l) (taken.split ∙ ap (λ (l : List ℕ). l ++ 32 ∷ parts.first.1) count.is);
      })

  sender_takes : (feeds : ℕ) (text : List ℕ) (p : Source × List ℕ) → sender_at plan text ≡ Some p → TakesSource feeds (codes "actor " ++ text) p
  unfolding sender_at
  sender_takes feeds text p is =
      let parts = then_is (cut 32 text) (λ p. actor_of plan (p.0) >>= λ a. Some (Actor a, p.1)) p is in
      let actor = then_is (actor_of plan (parts.first.0)) (λ a. Some (Actor a, parts.first.1)) p parts.result in
      let taken = cut_takes 32 text parts.first parts.is in
      let named = actor_takes (parts.first.0) actor.first actor.is in
      let same : (Actor actor.first, parts.first.1) ≡ p = let e = actor.result in cc in
      subst (TakesSource feeds (codes "actor " ++ text)) same (record {
        fits = named.within;
        split = ap (λ (l : List ℕ). codes "actor " ++ l) (taken.split ∙ ap (λ (l : List ℕ). l ++ 32 ∷ parts.first.1) named.is);
      })

  sender_by : (feeds : ℕ) (text : List ℕ) (p : Source × List ℕ) (found : Option (List ℕ)) → after (codes "actor ") text ≡ found → behind_or found (sender_at plan) None ≡ Some p → TakesSource feeds text p
  sender_by feeds text p None told is = absurd cc
  sender_by feeds text p (Some rest) told is = subst (λ (l : List ℕ). TakesSource feeds l p) (sym (after_takes (codes "actor ") text rest told)) (sender_takes feeds rest p is)

  source_by : (feeds : ℕ) (text : List ℕ) (p : Source × List ℕ) (found : Option (List ℕ)) → feeds < 2 ^ 32 → after (codes "feed ") text ≡ found
      → behind_or found (feed_at feeds) (behind_or (after (codes "actor ") text) (sender_at plan) None) ≡ Some p → TakesSource feeds text p
  source_by feeds text p None small told is = sender_by feeds text p (after (codes "actor ") text) refl is
  source_by feeds text p (Some rest) small told is = subst (λ (l : List ℕ). TakesSource feeds l p) (sym (after_takes (codes "feed ") text rest told)) (feed_takes feeds rest p small is)

  pub source_takes : (feeds : ℕ) (text : List ℕ) (p : Source × List ℕ) → feeds < 2 ^ 32 → source_at plan feeds text ≡ Some p → TakesSource feeds text p
  unfolding source_at
  source_takes feeds text p small is = source_by feeds text p (after (codes "feed ") text) small refl is

  -- ---- messages

  pub record HasKind (kind : ℕ) (values : List Value) : Type 0 where
    pub item : Kind
    pub at : slice_get plan.kinds kind ≡ Some item
    pub of_types : are_of_sorts (field_types item) values ≡ true

  kind_by : (kind : ℕ) (values : List Value) (found : Option Kind) → slice_get plan.kinds kind ≡ found → fits_sorts (option_map field_types found) values ≡ true → HasKind kind values
  kind_by kind values None at is = absurd cc
  kind_by kind values (Some k) at is = record { item = k; at = at; of_types = is }

  pub kind_at : (kind : ℕ) (values : List Value) → fits_sorts (slice_get (kind_types plan.kinds) kind) values ≡ true → HasKind kind values
  kind_at kind values is = kind_by kind values (slice_get plan.kinds kind) refl (ap (λ (o : Option (List Sort)). fits_sorts o values) (sym (slice_get-map field_types plan.kinds kind)) ∙ is)

  pub message_again : (m : Message) → MessageFits plan m → message_of plan (message_text plan m) ≡ Some m
  unfolding message_of message_with kind_of
  message_again m fits =
      let k = kind_at m.kind m.fields fits.kind in
      let text : List ℕ = fields_text m.fields in
      let named : name_of_kind plan m.kind ≡ k.item.name = ap kind_name k.at in
      let none : lacks 40 k.item.name ≡ true = name_lacks 40 k.item.name refl (each_name (λ (kind : Kind). kind.name) plan.kinds m.kind k.item k.at typed.kind_names.each) in
      ap (λ (name : List ℕ). message_of plan (name ++ 40 ∷ text)) named
      ∙ ap (λ (o : Option (List ℕ × List ℕ)). o >>= λ p. kind_of plan (p.0) >>= message_with plan (p.1)) (cut_again 40 k.item.name text none)
      ∙ ap (λ (o : Option ℕ). o >>= message_with plan text) (name_again (λ (kind : Kind). kind.name) plan.kinds m.kind k.item k.at typed.kind_names.apart)
      ∙ ap (λ (o : Option Kind). o >>= λ k. made m.kind (fields_of (field_types k) text)) k.at
      ∙ ap (made m.kind) (fields_again (field_types k.item) m.fields k.of_types fits.values)

  pub record TakesMessage (text : List ℕ) (m : Message) : Type 0 where
    pub fits : MessageFits plan m
    pub is : text ≡ message_text plan m

  with_takes : (text : List ℕ) (kind : ℕ) (m : Message) → message_with plan text kind ≡ Some m → TakesMessage (name_of_kind plan kind ++ 40 ∷ text) m
  unfolding message_with
  with_takes text kind m is =
      let k = then_is (slice_get plan.kinds kind) (λ k. made kind (fields_of (field_types k) text)) m is in
      let read = then_is (fields_of (field_types k.first) text) (λ fields. Some (record { kind = kind; fields = fields })) m k.result in
      let values = fields_takes (field_types k.first) text read.first read.is in
      let same : record { kind = kind; fields = read.first } ≡ m = let e = read.result in cc in
      subst (TakesMessage (name_of_kind plan kind ++ 40 ∷ text)) same (record {
        fits = record {
          kind = ap (λ (o : Option (List Sort)). fits_sorts o read.first) (slice_get-map field_types plan.kinds kind ∙ ap (option_map field_types) k.is) ∙ values.of_types;
          values = values.fits;
        };
        is = ap (λ (l : List ℕ). name_of_kind plan kind ++ 40 ∷ l) values.is;
      })

  pub message_takes : (text : List ℕ) (m : Message) → message_of plan text ≡ Some m → TakesMessage text m
  unfolding message_of kind_of
  message_takes text m is =
      let parts = then_is (cut 40 text) (λ p. kind_of plan (p.0) >>= message_with plan (p.1)) m is in
      let kind = then_is (kind_of plan (parts.first.0)) (message_with plan (parts.first.1)) m parts.result in
      let taken = cut_takes 40 text parts.first parts.is in
      let found = name_takes (λ (kind : Kind). kind.name) plan.kinds (parts.first.0) kind.first kind.is in
      let named : parts.first.0 ≡ name_of_kind plan kind.first = sym (ap kind_name found.at ∙ found.called) in
      subst (λ (l : List ℕ). TakesMessage l m) (sym (taken.split ∙ ap (λ (l : List ℕ). l ++ 40 ∷ parts.first.1) named)) (with_takes (parts.first.1) kind.first m kind.result)
