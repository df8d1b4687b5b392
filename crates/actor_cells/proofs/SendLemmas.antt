-- Posts that are moved from an outbox to a link, one by one.
use Rattle.std.proofs.Common.{◌≡◌, ◌∙◌, ℕ, zero, suc, ◌<◌, ◌≤◌, List, [], ◌∷◌, ◌++◌, length, Some, None, refl, ap, sym, subst, arith, append_assoc}
use Rattle.std.specs.Prelude.{slice_set}
use Rattle.std.proofs.lemmas.List.{length-set}
use Rattle.join_base.specs.declared.message.Stamped.{Stamped}
use Rattle.post_ring.specs.declared.link_in.LinkIn.{LinkIn}
use Rattle.post_ring.specs.Links.{identity_in, sent}
use Rattle.actor_turn.specs.Held.{Held, first_of, posts_for, with_first, without_first}
use Rattle.actor_cells.specs.Steps.{AreSmall, Moves}

set-at : (boxes : List (List Stamped)) (t : ℕ) (ps : List Stamped) → t < length boxes → posts_for (slice_set boxes t ps) t ≡ ps
set-at [] t ps within = absurd (omega arith)
set-at (b ∷ boxes) zero ps within = refl
set-at (b ∷ boxes) (suc t) ps within = set-at boxes t ps (omega arith)

set-other : (boxes : List (List Stamped)) (t : ℕ) (ps : List Stamped) (other : ℕ) → ¬ (other ≡ t) → posts_for (slice_set boxes t ps) other ≡ posts_for boxes other
set-other [] t ps other apart = refl
set-other (b ∷ boxes) zero ps zero apart = absurd (apart refl)
set-other (b ∷ boxes) zero ps (suc other) apart = refl
set-other (b ∷ boxes) (suc t) ps zero apart = refl
set-other (b ∷ boxes) (suc t) ps (suc other) apart = set-other boxes t ps other (λ same. apart (ap suc same))

pub moves-none : (t : ℕ) (a : Held) (l : LinkIn) → Moves t a a l l
moves-none t a l = record { identity = refl; setting = refl; state = refl; history = refl; trees = refl; count = refl; all = refl; others = λ other apart. refl }

-- the first post was taken out
pub record TakesOut (t : ℕ) (before after : Held) (post : Stamped) : Type 0 where
  pub rest : List Stamped
  pub was : posts_for before.outbox t ≡ post ∷ rest
  pub setting : after.setting ≡ before.setting
  pub state : after.state ≡ before.state
  pub history : after.history ≡ before.history
  pub trees : after.trees ≡ before.trees
  pub boxes : after.outbox ≡ slice_set before.outbox t rest

pub takes-out : (t : ℕ) (before after : Held) (post : Stamped) → Some post ≡ first_of (posts_for before.outbox t) → after ≡ without_first before t (posts_for before.outbox t) → TakesOut t before after post
takes-out t before after post first is = by (posts_for before.outbox t) refl first is
  where
    by : (ps : List Stamped) → posts_for before.outbox t ≡ ps → Some post ≡ first_of ps → after ≡ without_first before t ps → TakesOut t before after post
    by [] e f i = absurd cc
    by (p ∷ ps) e f i =
        let same : p ≡ post = cc f in
        record {
          rest = ps;
          was = e ∙ ap (λ (x : Stamped). x ∷ ps) same;
          setting = ap (λ (h : Held). h.setting) i;
          state = ap (λ (h : Held). h.state) i;
          history = ap (λ (h : Held). h.history) i;
          trees = ap (λ (h : Held). h.trees) i;
          boxes = ap (λ (h : Held). h.outbox) i;
        }

module _ (t : ℕ) (first before after : Held) (start old : LinkIn) (post : Stamped) (moves : Moves t first before start old) (within : t < length before.outbox) (out : TakesOut t before after post) where
  left : posts_for after.outbox t ≡ out.rest
  left = ap (λ (o : List (List Stamped)). posts_for o t) out.boxes ∙ set-at before.outbox t out.rest within

  others : (other : ℕ) → ¬ (other ≡ t) → posts_for after.outbox other ≡ posts_for before.outbox other
  others other apart = ap (λ (o : List (List Stamped)). posts_for o other) out.boxes ∙ set-other before.outbox t out.rest other apart

  pub count-out : length after.outbox ≡ length before.outbox
  count-out = ap length out.boxes ∙ length-set before.outbox t out.rest

  pub small-out : AreSmall (posts_for before.outbox t) → (post.stamp ≤ 4294967295) × AreSmall (posts_for after.outbox t)
  small-out small = let s = subst AreSmall out.was small in (s.0, subst AreSmall (sym left) s.1)

  pub fewer : length (posts_for after.outbox t) < length (posts_for before.outbox t)
  fewer = let l = ap length left in let w = ap length out.was in omega (arith, l, w)

  -- it went over the link
  pub moves-pushed : (now : LinkIn) → identity_in now ≡ identity_in old → sent now ≡ sent old ++ post ∷ [] → Moves t first after start now
  moves-pushed now identity more = record {
    identity = identity ∙ moves.identity;
    setting = out.setting ∙ moves.setting;
    state = out.state ∙ moves.state;
    history = out.history ∙ moves.history;
    trees = out.trees ∙ moves.trees;
    count = count-out ∙ moves.count;
    all = (λ i. more i ++ left i) ∙ append_assoc (sent old) (post ∷ []) out.rest ∙ ap (λ (ps : List Stamped). sent old ++ ps) (sym out.was) ∙ moves.all;
    others = λ other apart. others other apart ∙ moves.others other apart;
  }

  -- it was brought back
  pub moves-back : (back : Held) (now : LinkIn) (again : Stamped) → again ≡ post → back ≡ with_first after t again → identity_in now ≡ identity_in old → sent now ≡ sent old → Moves t first back start now
  moves-back back now again same is identity sent_same =
      let boxes : back.outbox ≡ slice_set after.outbox t (again ∷ posts_for after.outbox t) = ap (λ (h : Held). h.outbox) is in
      let there : t < length after.outbox = subst (λ (n : ℕ). t < n) (sym count-out) within in
      let here : posts_for back.outbox t ≡ posts_for before.outbox t =
      ap (λ (o : List (List Stamped)). posts_for o t) boxes ∙ set-at after.outbox t (again ∷ posts_for after.outbox t) there ∙ (λ i. same i ∷ left i) ∙ sym out.was in
      record {
        identity = identity ∙ moves.identity;
        setting = ap (λ (h : Held). h.setting) is ∙ out.setting ∙ moves.setting;
        state = ap (λ (h : Held). h.state) is ∙ out.state ∙ moves.state;
        history = ap (λ (h : Held). h.history) is ∙ out.history ∙ moves.history;
        trees = ap (λ (h : Held). h.trees) is ∙ out.trees ∙ moves.trees;
        count = ap length boxes ∙ length-set after.outbox t (again ∷ posts_for after.outbox t) ∙ count-out ∙ moves.count;
        all = (λ i. sent_same i ++ here i) ∙ moves.all;
        others = λ other apart. ap (λ (o : List (List Stamped)). posts_for o other) boxes ∙ set-other after.outbox t (again ∷ posts_for after.outbox t) other apart ∙ others other apart ∙ moves.others other apart;
      }

-- none waits where none was found
pub none-waits : (t : ℕ) (before after : Held) → None ≡ first_of (posts_for before.outbox t) → after ≡ before → posts_for after.outbox t ≡ []
none-waits t before after none same = ap (λ (h : Held). posts_for h.outbox t) same ∙ by (posts_for before.outbox t) none
  where
    by : (ps : List Stamped) → None ≡ first_of ps → ps ≡ []
    by [] e = refl
    by (p ∷ ps) e = absurd cc

-- none waited
pub takes-none : (t : ℕ) (before after : Held) → None ≡ first_of (posts_for before.outbox t) → after ≡ without_first before t (posts_for before.outbox t) → after ≡ before
takes-none t before after none is = by (posts_for before.outbox t) none is
  where
    by : (ps : List Stamped) → None ≡ first_of ps → after ≡ without_first before t ps → after ≡ before
    by [] e i = i
    by (p ∷ ps) e i = absurd cc
