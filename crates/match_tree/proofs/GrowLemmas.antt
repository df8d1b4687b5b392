-- How routes grow: list by list, and node by node.
use Rattle.std.proofs.Common.{◌≡◌, ◌⊎◌, ◌∙◌, inl, inr, ℕ, List, [], ◌∷◌, ◌++◌, map, Bool, true, false, ◌&&◌, cond, refl, sym, ap, subst}
use Rattle.std.specs.Prelude.{nat_le}
use Rattle.std.proofs.lemmas.List.{map-append}
use Rattle.std.proofs.lemmas.List.Elements.{filter-append}
use Rattle.guard_eval.specs.Meaning.{Assignment}
use Rattle.pattern_core.specs.Members.{IsIn}
use Rattle.pattern_core.proofs.MembersLemmas.{IsIn-append_left, IsIn-append_right, IsIn-append_cases, IsIn-map, IsIn-map_from}
use Rattle.tree_rows.specs.Routes.{Route, Step, Branch, step, filled, with_number, node_routes, lacks, is_seen}
use Rattle.row_screens.specs.Offers.{Offered, seen, growing, new_routes}
use Rattle.match_tree.specs.Growth.{Lasts, Grows, steps_to}
use Rattle.tree_rows.proofs.ListLemmas.{flat_map-append}

module _ (o : Offered) (slots : Assignment) where
  new_routes-append : (xs ys : List Route) → new_routes o slots (seen o (xs ++ ys)) ≡ new_routes o slots (seen o xs) ++ new_routes o slots (seen o ys)
  new_routes-append xs ys = ap (new_routes o slots) (filter-append (is_seen o.oldest) xs ys) ∙ flat_map-append (λ (r : Route). map (λ p. r ++ step p o.number ∷ []) (growing o (filled slots r))) (seen o xs) (seen o ys)

  -- two lists, one behind the other
  pub grows_both : (hs ks : List ℕ) (xs ys xs' ys' : List Route) → Grows o slots hs xs xs' → Grows o slots ks ys ys' → Grows o slots (hs ++ ks) (xs ++ ys) (xs' ++ ys')
  grows_both hs ks xs ys xs' ys' g h =
      let added = new_routes-append xs ys in
      let begun : steps_to o.number (hs ++ ks) ≡ steps_to o.number hs ++ steps_to o.number ks = map-append (λ (p : ℕ). step p o.number ∷ []) hs ks in
      record {
        from = λ r m. elim (IsIn-append_cases r xs' ys' m) [
          | inl l ↦ elim (g.from r l) [
            | inl a ↦ inl (IsIn-append_left r xs ys a)
            | inr b ↦ elim b [
              | inl c ↦ inr (inl (subst (IsIn r) (sym added) (IsIn-append_left r (new_routes o slots (seen o xs)) (new_routes o slots (seen o ys)) c)))
              | inr d ↦ inr (inr (subst (IsIn r) (sym begun) (IsIn-append_left r (steps_to o.number hs) (steps_to o.number ks) d)))
            ]
          ]
          | inr l ↦ elim (h.from r l) [
            | inl a ↦ inl (IsIn-append_right r xs ys a)
            | inr b ↦ elim b [
              | inl c ↦ inr (inl (subst (IsIn r) (sym added) (IsIn-append_right r (new_routes o slots (seen o xs)) (new_routes o slots (seen o ys)) c)))
              | inr d ↦ inr (inr (subst (IsIn r) (sym begun) (IsIn-append_right r (steps_to o.number hs) (steps_to o.number ks) d)))
            ]
          ]
        ];
        keeps = λ r m. elim (IsIn-append_cases r xs ys m) [ inl l ↦ IsIn-append_left r xs' ys' (g.keeps r l) | inr l ↦ IsIn-append_right r xs' ys' (h.keeps r l) ];
        adds = λ r m. elim (IsIn-append_cases r (new_routes o slots (seen o xs)) (new_routes o slots (seen o ys)) (subst (IsIn r) added m)) [ inl l ↦ IsIn-append_left r xs' ys' (g.adds r l) | inr l ↦ IsIn-append_right r xs' ys' (h.adds r l) ];
        begins = λ r m. elim (IsIn-append_cases r (steps_to o.number hs) (steps_to o.number ks) (subst (IsIn r) begun m)) [ inl l ↦ IsIn-append_left r xs' ys' (g.begins r l) | inr l ↦ IsIn-append_right r xs' ys' (h.begins r l) ];
      }

  pub grows_none : Grows o slots [] [] []
  grows_none = record { from = λ r m. absurd m; keeps = λ r m. m; adds = λ r m. m; begins = λ r m. m }

  -- where nothing is seen and the number begins nowhere, nothing is added
  pub grows_unseen : (xs : List Route) → seen o xs ≡ [] → Grows o slots [] xs xs
  grows_unseen xs none = record {
    from = λ r m. inl m;
    keeps = λ r m. m;
    adds = λ r m. let None : List Route → Type 0 = λ rs. IsIn r (new_routes o slots rs) in absurd (subst None none m);
    begins = λ r m. absurd m;
  }

-- ---- behind a step

seen_behind : (o : Offered) (s : Step) (routes : List Route) → nat_le o.oldest s.number ≡ true → seen o (map (λ r. s ∷ r) routes) ≡ map (λ r. s ∷ r) (seen o routes)
seen_behind o s [] h = refl
seen_behind o s (r ∷ routes) h = by (is_seen o.oldest r) refl (seen_behind o s routes h)
  where
    by : (b : Bool) → is_seen o.oldest r ≡ b → seen o (map (λ x. s ∷ x) routes) ≡ map (λ x. s ∷ x) (seen o routes)
        → cond (nat_le o.oldest s.number && is_seen o.oldest r) ((s ∷ r) ∷ seen o (map (λ x. s ∷ x) routes)) (seen o (map (λ x. s ∷ x) routes)) ≡ map (λ x. s ∷ x) (cond b (r ∷ seen o routes) (seen o routes))
    by true e later = λ i. cond (h i && e i) ((s ∷ r) ∷ later i) (later i)
    by false e later = λ i. cond (h i && e i) ((s ∷ r) ∷ later i) (later i)

unseen_behind : (o : Offered) (s : Step) (routes : List Route) → nat_le o.oldest s.number ≡ false → seen o (map (λ r. s ∷ r) routes) ≡ []
unseen_behind o s [] h = refl
unseen_behind o s (r ∷ routes) h = (λ i. cond (h i && is_seen o.oldest r) ((s ∷ r) ∷ seen o (map (λ x. s ∷ x) routes)) (seen o (map (λ x. s ∷ x) routes))) ∙ unseen_behind o s routes h

pub seen_node : (o : Offered) (q : ℕ) (node : Branch) → nat_le o.oldest node.number ≡ true → seen o (node_routes q node) ≡ (step q node.number ∷ []) ∷ map (λ r. step q node.number ∷ r) (seen o node.routes)
seen_node o q node h =
    (λ i. cond (h i && true) ((step q node.number ∷ []) ∷ seen o (map (λ r. step q node.number ∷ r) node.routes)) (seen o (map (λ r. step q node.number ∷ r) node.routes)))
    ∙ ap (λ (rs : List Route). (step q node.number ∷ []) ∷ rs) (seen_behind o (step q node.number) node.routes h)

pub unseen_node : (o : Offered) (q : ℕ) (node : Branch) → nat_le o.oldest node.number ≡ false → seen o (node_routes q node) ≡ []
unseen_node o q node h =
    (λ i. cond (h i && true) ((step q node.number ∷ []) ∷ seen o (map (λ r. step q node.number ∷ r) node.routes)) (seen o (map (λ r. step q node.number ∷ r) node.routes)))
    ∙ unseen_behind o (step q node.number) node.routes h

-- the routes that are added behind a step are those that are added behind the longer path, with the step in front
new_behind : (o : Offered) (slots : Assignment) (s : Step) (routes : List Route) → new_routes o slots (map (λ r. s ∷ r) routes) ≡ map (λ r. s ∷ r) (new_routes o (with_number slots s.pattern s.number) routes)
new_behind o slots s [] = refl
new_behind o slots s (r ∷ routes) =
    let longer : Assignment = with_number slots s.pattern s.number in
    let front : Route → Route = λ x. s ∷ x in
    let here : List Route = map (λ p. r ++ step p o.number ∷ []) (growing o (filled longer r)) in
    (λ i. map-map front (λ p. r ++ step p o.number ∷ []) (growing o (filled longer r)) i ++ new_behind o slots s routes i)
    ∙ sym (map-append front here (new_routes o longer routes))
  where
    map-map : {X : Type 0} (f : Route → Route) (g : X → Route) (xs : List X) → map (λ x. f (g x)) xs ≡ map f (map g xs)
    map-map f g [] = refl
    map-map f g (x ∷ xs) = ap (λ (ys : List Route). f (g x) ∷ ys) (map-map f g xs)

steps_behind : (s : Step) (n : ℕ) (ps : List ℕ) → map (λ p. (s ∷ []) ++ step p n ∷ []) ps ≡ map (λ r. s ∷ r) (steps_to n ps)
steps_behind s n [] = refl
steps_behind s n (p ∷ ps) = ap (λ (rs : List Route). (s ∷ step p n ∷ []) ∷ rs) (steps_behind s n ps)

-- what is added behind the routes of a node
new_node : (o : Offered) (slots : Assignment) (q : ℕ) (node : Branch) → nat_le o.oldest node.number ≡ true
    → new_routes o slots (seen o (node_routes q node)) ≡ map (λ r. step q node.number ∷ r) (steps_to o.number (growing o (with_number slots q node.number)) ++ new_routes o (with_number slots q node.number) (seen o node.routes))
new_node o slots q node h =
    let s : Step = step q node.number in
    let longer : Assignment = with_number slots q node.number in
    ap (new_routes o slots) (seen_node o q node h)
    ∙ (λ i. steps_behind s o.number (growing o longer) i ++ new_behind o slots s (seen o node.routes) i)
    ∙ sym (map-append (λ (r : Route). s ∷ r) (steps_to o.number (growing o longer)) (new_routes o longer (seen o node.routes)))

-- a node whose routes have grown
pub grows_node : (o : Offered) (slots : Assignment) (q : ℕ) (node now : Branch) → nat_le o.oldest node.number ≡ true → now.number ≡ node.number
    → Grows o (with_number slots q node.number) (growing o (with_number slots q node.number)) node.routes now.routes → Grows o slots [] (node_routes q node) (node_routes q now)
grows_node o slots q node now h same g =
    let s : Step = step q node.number in
    let longer : Assignment = with_number slots q node.number in
    let front : Route → Route = λ r. s ∷ r in
    let begun : List Route = steps_to o.number (growing o longer) in
    let added : List Route = new_routes o longer (seen o node.routes) in
    let is = new_node o slots q node h in
    let now_is : node_routes q now ≡ (s ∷ []) ∷ map front now.routes = ap (λ (n : ℕ). (step q n ∷ []) ∷ map (λ r. step q n ∷ r) now.routes) same in
    let from : (r : Route) → IsIn r ((s ∷ []) ∷ map front now.routes) → IsIn r (node_routes q node) ⊎ IsIn r (new_routes o slots (seen o (node_routes q node))) =
    λ r m. elim m [
      | inl e ↦ inl (inl e)
      | inr k ↦
          let w = IsIn-map_from front r now.routes k in
          let New : List Route → Type 0 = λ rs. IsIn r rs in
          let put : (x : Route) → IsIn x (begun ++ added) → IsIn (front x) (new_routes o slots (seen o (node_routes q node))) = λ x i. subst (λ (rs : List Route). IsIn (front x) rs) (sym is) (IsIn-map front x (begun ++ added) i) in
          let At : Route → Type 0 = λ x. IsIn x (node_routes q node) ⊎ IsIn x (new_routes o slots (seen o (node_routes q node))) in
          subst At w.2 (elim (g.from w.0 w.1) [
            | inl a ↦ inl (inr (IsIn-map front w.0 node.routes a))
            | inr b ↦ elim b [
              | inl c ↦ inr (put w.0 (IsIn-append_right w.0 begun added c))
              | inr d ↦ inr (put w.0 (IsIn-append_left w.0 begun added d))
            ]
          ])
    ]
    in
    record {
      from = λ r m. elim (from r (subst (IsIn r) now_is m)) [ inl a ↦ inl a | inr b ↦ inr (inl b) ];
      keeps = λ r m. subst (IsIn r) (sym now_is) (elim m [
        | inl e ↦ inl e
        | inr k ↦
            let w = IsIn-map_from front r node.routes k in
            let At : Route → Type 0 = λ x. IsIn x ((s ∷ []) ∷ map front now.routes) in
            subst At w.2 (inr (IsIn-map front w.0 now.routes (g.keeps w.0 w.1)))
      ]);
      adds = λ r m. subst (IsIn r) (sym now_is) (
          let w = IsIn-map_from front r (begun ++ added) (subst (IsIn r) is m) in
          let At : Route → Type 0 = λ x. IsIn x ((s ∷ []) ∷ map front now.routes) in
          subst At w.2 (inr (IsIn-map front w.0 now.routes (elim (IsIn-append_cases w.0 begun added w.1) [ inl a ↦ g.begins w.0 a | inr b ↦ g.adds w.0 b ])))
          );
      begins = λ r m. absurd m;
    }

-- ---- what lasts

pub lasts_both : (n : ℕ) (xs ys xs' ys' : List Route) → Lasts n xs xs' → Lasts n ys ys' → Lasts n (xs ++ ys) (xs' ++ ys')
lasts_both n xs ys xs' ys' g h = filter-append (lacks (n ∷ [])) xs' ys' ∙ (λ i. g i ++ h i)
