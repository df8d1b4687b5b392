-- Cells that are prepared.
use Rattle.std.proofs.Common.{Vec, Global, ◌≡◌, ◌∙◌, ◌⊎◌, inl, inr, ℕ, zero, suc, ◌+◌, ◌<◌, ◌≤◌, List, [], ◌∷◌, ◌++◌, length, map, get_or, All, Some, refl, ap, sym, subst, arith}
use Rattle.std.specs.Prelude.{slice_get}
use Rattle.std.specs.List.{AllByRecursion}
use Rattle.std.proofs.lemmas.List.{length-map, map-append}
use Rattle.std.proofs.lemmas.Bool.{cases_lt}
use Rattle.script_types.specs.declared.plan.Plan.{Plan}
use Rattle.script_types.specs.declared.plan.ActorPlan.{ActorPlan}
use Rattle.fair_semantics.specs.declared.run.Limits.{Limits}
use Rattle.fair_semantics.specs.Fair.{rules_of, setting_of}
use Rattle.fair_semantics.specs.Fits.{RuleFits}
use Rattle.fair_semantics.specs.Linked.{numbers_from}
use Rattle.fair_semantics.proofs.FairLemmas.{numbers_from-more}
use Rattle.fair_semantics.proofs.NumberLemmas.{get_numbers}
use Rattle.script_types.specs.Typed.{IsTyped}
use Rattle.actor_turn.specs.Held.{AreLimits, Held, new_actor}
use Rattle.actor_turn.specs.Rest.{HoldsPartialMatches}
use Rattle.actor_turn.proofs.HeldLemmas.{new_partial}
use Rattle.cell_links.specs.declared.ends.ActorLinks.{ActorLinks}
use Rattle.cell_links.specs.declared.ends.LinkTags.{LinkTags}
use Rattle.cell_links.specs.declared.ends.Inward.{Inward}
use Rattle.cell_links.specs.declared.ends.Outward.{Outward}
use Rattle.cell_links.specs.declared.feed_links.FeedLinks.{FeedLinks}
use Rattle.cell_links.specs.Ends.{PosterTag, link_count, link_tags, poster_links, tags_of}
use Rattle.cell_links.specs.Making.{AreNew, IsNewIn, IsNewOut, TargetsApart}
use Rattle.cell_links.specs.Wiring.{IsWired}
use Rattle.actor_cells.specs.declared.cell.Cell.{Cell}
use Rattle.actor_cells.specs.declared.cell.CellTag.{CellTag}
use Rattle.actor_cells.specs.Lawful.{IsLawful, cell_tag, held_in, links_in}
use Rattle.actor_cells.specs.Prepared.{AreWired, IsNewPoster, IsOpening}
use Rattle.actor_cells.specs.Targets.{AreTargets, AreTargetsOf, new_actors}
use Rattle.actor_cells.proofs.LinkLemmas.{target_of}
use Rattle.actor_cells.proofs.OpeningLemmas.{opening-lawful, opening-tag}
use Rattle.actor_cells.proofs.TargetLemmas.{All-unmap, targets-apart, targets-below}

abbrev pub inward_of : Cell → List Inward
inward_of c = c.inward.items

abbrev pub outward_of : Cell → List Outward
outward_of c = c.outward.items

abbrev pub coming : ActorLinks → List Inward
coming l = l.inward.items

abbrev pub going : ActorLinks → List Outward
going l = l.outward.items

-- ---- one cell more

pub actors-more : (plan : Plan) (limits : Limits) (feeds index : ℕ) (cells : List Cell) (c : Cell) → map held_in cells ≡ new_actors plan limits feeds index → held_in c ≡ new_actor plan index limits feeds → map held_in (cells ++ c ∷ []) ≡ new_actors plan limits feeds (index + 1)
actors-more plan limits feeds index cells c before one =
    map-append held_in cells (c ∷ []) ∙ (λ i. before i ++ one i ∷ []) ∙ sym (map-append (λ k. new_actor plan k limits feeds) (numbers_from 0 index) (index ∷ []))
    ∙ ap (map (λ k. new_actor plan k limits feeds)) (ap (λ (n : ℕ). numbers_from 0 index ++ n ∷ []) (let e : index ≡ 0 + index = omega arith in e) ∙ numbers_from-more 0 index)

pub mapped-more : {X Y Z : Type 0} (f : X → Z) (g : Y → Z) (xs : List X) (ys : List Y) (x : X) (y : Y) → map f xs ≡ map g ys → f x ≡ g y → map f (xs ++ x ∷ []) ≡ map g (ys ++ y ∷ [])
mapped-more f g xs ys x y before one = map-append f xs (x ∷ []) ∙ (λ i. before i ++ one i ∷ []) ∙ sym (map-append g ys (y ∷ []))

pub texts-more : (plan : Plan) (limits : Limits) (index : ℕ) → ((k : ℕ) → k < index → AllByRecursion RuleFits (setting_of plan k limits).rules) → AllByRecursion RuleFits (setting_of plan index limits).rules
    → (k : ℕ) → k < index + 1 → AllByRecursion RuleFits (setting_of plan k limits).rules
texts-more plan limits index before one k within = by (cases_lt k index)
  where
    by : (k < index) ⊎ (index ≤ k) → AllByRecursion RuleFits (setting_of plan k limits).rules
    by (inl less) = before k less
    by (inr more) = let same : index ≡ k = omega (arith, within, more) in subst (λ (n : ℕ). AllByRecursion RuleFits (setting_of plan n limits).rules) same one

-- ---- all cells

pub get-map : {X Y : Type 0} (f : X → Y) (xs : List X) (k : ℕ) (x : X) → slice_get xs k ≡ Some x → slice_get (map f xs) k ≡ Some (f x)
get-map f [] k x at = absurd cc
get-map f (y ∷ xs) zero x at = let same : y ≡ x = cc in ap (λ z. Some (f z)) same
get-map f (y ∷ xs) (suc k) x at = get-map f xs k x at

pub get-at : {X : Type 0} (xs : List X) (k : ℕ) (d : X) → k < length xs → slice_get xs k ≡ Some (get_or xs k d)
get-at [] k d within = absurd (omega arith)
get-at (x ∷ xs) zero d within = refl
get-at (x ∷ xs) (suc k) d within = get-at xs k d (omega arith)

pub get-within : {X : Type 0} (xs : List X) (k : ℕ) (x : X) → slice_get xs k ≡ Some x → k < length xs
get-within [] k x at = absurd cc
get-within (y ∷ xs) zero x at = omega arith
get-within (y ∷ xs) (suc k) x at = let l = get-within xs k x at in omega (arith, l)

-- the links at a place
pub record LinksAt (links : List ActorLinks) (k : ℕ) (c : Cell) : Type 0 where
  pub own : ActorLinks
  pub at : slice_get links k ≡ Some own
  pub inward : inward_of c ≡ coming own
  pub outward : outward_of c ≡ going own

links-at : (cells : List Cell) (links : List ActorLinks) (k : ℕ) (c : Cell) → map inward_of cells ≡ map coming links → map outward_of cells ≡ map going links → slice_get cells k ≡ Some c → LinksAt links k c
links-at [] links k c ins outs at = absurd cc
links-at (d ∷ cells) [] k c ins outs at = absurd cc
links-at (d ∷ cells) (l ∷ links) zero c ins outs at =
    let same : d ≡ c = cc at in
    let i : inward_of d ≡ coming l = cc ins in
    let o : outward_of d ≡ going l = cc outs in
    record { own = l; at = refl; inward = ap inward_of (sym same) ∙ i; outward = ap outward_of (sym same) ∙ o }
links-at (d ∷ cells) (l ∷ links) (suc k) c ins outs at =
    let i : map inward_of cells ≡ map coming links = cc ins in
    let o : map outward_of cells ≡ map going links = cc outs in
    let r = links-at cells links k c i o at in
    record { own = r.own; at = r.at; inward = r.inward; outward = r.outward }

pub tags-are : (cells : List Cell) (links : List ActorLinks) → map inward_of cells ≡ map coming links → map outward_of cells ≡ map going links → map (λ (t : CellTag). t.links) (map cell_tag cells) ≡ map link_tags links
tags-are [] [] ins outs = refl
tags-are [] (l ∷ links) ins outs = absurd cc
tags-are (d ∷ cells) [] ins outs = absurd cc
tags-are (d ∷ cells) (l ∷ links) ins outs =
    let i : inward_of d ≡ coming l = cc ins in
    let o : outward_of d ≡ going l = cc outs in
    let is : map inward_of cells ≡ map coming links = cc ins in
    let os : map outward_of cells ≡ map going links = cc outs in
    λ t. tags_of (i t) (o t) ∷ tags-are cells links is os t

some-actor : (actors : List ActorPlan) (all : List (List ℕ)) (count k : ℕ) (own : List ℕ) → AreTargetsOf count actors all → slice_get all k ≡ Some own → AreTargets count (rules_of (slice_get actors k)) own
some-actor [] [] count k own are at = absurd cc
some-actor [] (o ∷ all) count k own are at = absurd are
some-actor (a ∷ actors) [] count k own are at = absurd cc
some-actor (a ∷ actors) (o ∷ all) count zero own are at = let same : o ≡ own = cc at in subst (AreTargets count a.rules) same are.0
some-actor (a ∷ actors) (o ∷ all) count (suc k) own are at = some-actor actors all count k own are.1 at

-- the cells that were made for a plan, with the links that were made
module _ (plan : Plan) (limits : Limits) (feeds ring : ℕ) (cells : List Cell) (links : List ActorLinks) (posters : List PosterTag) (all : List (List ℕ))
    (actors : map held_in cells ≡ new_actors plan limits feeds (length plan.actors)) (ins : map inward_of cells ≡ map coming links) (outs : map outward_of cells ≡ map going links) (new : All (AreNew ring) links) where
  pub count-cells : length links ≡ length plan.actors → length cells ≡ length plan.actors
  count-cells count = sym (length-map cells inward_of) ∙ ap length ins ∙ length-map links coming ∙ count

  pub opening-at : (k : ℕ) (c : Cell) → k < length plan.actors → slice_get cells k ≡ Some c → IsOpening plan limits feeds ring k c
  opening-at k c within at =
      let l = links-at cells links k c ins outs at in
      let fresh : AreNew ring l.own =
      (let j = get-within links k l.own l.at in let e = get-at links k l.own j in let same : get_or links k l.own ≡ l.own = cc (sym e ∙ l.at) in subst (AreNew ring) same (new k l.own j)) in
      let held : Some (held_in c) ≡ Some (new_actor plan (0 + k) limits feeds) =
      sym (get-map held_in cells k c at) ∙ ap (λ (hs : List Held). slice_get hs k) actors ∙ get_numbers (λ j. new_actor plan j limits feeds) 0 (length plan.actors) k within in
      let own : held_in c ≡ new_actor plan (0 + k) limits feeds = cc held in
      record {
        actor = own ∙ ap (λ (n : ℕ). new_actor plan n limits feeds) (let e : 0 + k ≡ k = omega arith in e);
        inward = subst (All IsNewIn) (sym l.inward) fresh.inward;
        outward = subst (All (IsNewOut ring)) (sym l.outward) fresh.outward;
      }

  module _ (typed : IsTyped plan) (given : AreLimits limits) (count : length links ≡ length plan.actors) (many : length posters ≡ feeds) (wired : IsWired (map link_tags links) posters) (to : map (λ (l : ActorLinks). map target_of (going l)) links ≡ all) (are : AreTargetsOf (length plan.actors) plan.actors all) where
    pub lawful-at : (k : ℕ) (c : Cell) → slice_get cells k ≡ Some c → IsLawful c
    lawful-at k c at =
        let within : k < length plan.actors = (let l = get-within cells k c at in let n = count-cells count in omega (arith, l, n)) in
        let o = opening-at k c within at in
        let l = links-at cells links k c ins outs at in
        let here : slice_get (map link_tags links) k ≡ Some (links_in c) = get-map link_tags links k l.own l.at ∙ (λ i. Some (tags_of (sym l.inward i) (sym l.outward i))) in
        let own : slice_get all k ≡ Some (map target_of (outward_of c)) =
        ap (λ (ts : List (List ℕ)). slice_get ts k) (sym to) ∙ get-map (λ (x : ActorLinks). map target_of (going x)) links k l.own l.at ∙ (λ i. Some (map target_of (sym l.outward i))) in
        let tag = opening-tag plan limits feeds ring k c (map link_tags links) posters (map target_of (outward_of c)) o here (length-map links link_tags ∙ count) many wired refl
        (some-actor plan.actors all (length plan.actors) k (map target_of (outward_of c)) are own) in
        opening-lawful plan limits feeds ring k c o tag (subst HoldsPartialMatches (sym o.actor) (new_partial plan k limits feeds typed given within))

    pub all-lawful : All IsLawful cells
    all-lawful k d within = lawful-at k (get_or cells k d) (get-at cells k d within)

  pub cells-wired : IsWired (map link_tags links) posters → AreWired (map cell_tag cells) posters
  cells-wired wired = subst (λ (ts : List LinkTags). IsWired ts posters) (sym (tags-are cells links ins outs)) wired

-- ---- what connecting is asked for, and what it answers

abbrev pub numbers_of : Vec ℕ Global → List ℕ
numbers_of own = own.items

pub exist-all : (count : ℕ) (actors : List ActorPlan) (targets : List (Vec ℕ Global)) → length targets ≡ count → AreTargetsOf count actors (map numbers_of targets) → All (λ (ts : Vec ℕ Global). All (λ (t : ℕ). t < length targets) ts.items) targets
exist-all count actors targets many are =
    subst (λ (n : ℕ). All (λ (ts : Vec ℕ Global). All (λ (t : ℕ). t < n) ts.items) targets) (sym many) (All-unmap (λ (ts : List ℕ). All (λ (t : ℕ). t < count) ts) numbers_of targets (targets-below count actors (map numbers_of targets) are))

pub apart-all : (count : ℕ) (actors : List ActorPlan) (targets : List (Vec ℕ Global)) → AreTargetsOf count actors (map numbers_of targets) → All (λ (ts : Vec ℕ Global). TargetsApart ts.items) targets
apart-all count actors targets are = All-unmap TargetsApart numbers_of targets (targets-apart count actors (map numbers_of targets) are)

pub new-posters : (count actors ring : ℕ) (posters : List FeedLinks) → count ≡ actors → All (λ (p : FeedLinks). (link_count p ≡ count) × All (IsNewOut ring) (poster_links p)) posters → All (IsNewPoster actors ring) posters
new-posters count actors ring posters same each k d within = let e = each k d within in record { count = e.0 ∙ same; links = e.1 }
