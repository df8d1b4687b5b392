-- The links of a section, one more, and a link of which one post more was taken.
use Rattle.std.proofs.Common.{◌≡◌, ◌∙◌, ℕ, suc, ◌+◌, ◌-◌, ◌^◌, ◌<◌, List, [], ◌∷◌, length, drop, get_or, Bool, true, false, Option, None, Some, slice_get, refl, sym, ap, arith}
use Rattle.std.specs.Prelude.{if◌then◌else◌, ◌&&◌, nat_lt}
use Rattle.std.proofs.lemmas.Bool.Decides.{nat_tests}
use Rattle.std.proofs.lemmas.List.{drop_more}
use Rattle.join_base.specs.declared.message.Source.TheVariants.{Actor}
use Rattle.join_base.specs.declared.message.Stamped.{Stamped}
use Rattle.fair_semantics.specs.declared.run.Entry.{Entry}
use Rattle.fair_semantics.specs.declared.run.ActorRun.{ActorRun}
use Rattle.fair_semantics.specs.declared.run.Run.{Run}
use Rattle.fair_semantics.specs.Linked.{numbers_from, same_source}
use Rattle.log_posts.specs.Posts.{has_message}
use Rattle.log_replay.specs.Kept.{earlier, entries_size, entry_size, link_fault, link_of, links_fault}

pub links_more : (run expected : Run) (to line : ℕ) (own : ActorRun) (first next whole : Option ℕ) (from n : ℕ) → from < n → next ≡ earlier first (link_of run expected to line own from)
    → links_fault run expected to line own first (numbers_from from (n - from)) ≡ whole → links_fault run expected to line own next (numbers_from (from + 1) (n - (from + 1))) ≡ whole
links_more run expected to line own first next whole from n below is done =
    let more : suc (n - (from + 1)) ≡ n - from = omega arith in
    ap (λ (o : Option ℕ). links_fault run expected to line own o (numbers_from (from + 1) (n - (from + 1)))) is
    ∙ ap (λ (k : ℕ). links_fault run expected to line own first (numbers_from from k)) more
    ∙ done

less_more : (a b : ℕ) → nat_lt (suc a) (suc b) ≡ nat_lt a b
less_more a b = by (nat_lt a b) refl
  where
    by : (c : Bool) → nat_lt a b ≡ c → nat_lt (suc a) (suc b) ≡ nat_lt a b
    by true is = let more : nat_lt (suc a) (suc b) ≡ true = grind (arith, nat_tests) in more ∙ sym is
    by false is = let more : nat_lt (suc a) (suc b) ≡ false = grind (arith, nat_tests) in more ∙ sym is

-- where one post more was taken, and the first one is gone
link_rest : (posts : List Stamped) (from : ℕ) (on : Bool) (late line taken : ℕ) (entries : List Entry) → link_fault posts from on late line (suc taken) entries ≡ link_fault (drop 1 posts) from on late line taken entries
link_rest posts from on late line taken [] = ap (λ (more : Bool). if on && more then Some (line + late) else None) (fewer posts)
  where
    fewer : (ps : List Stamped) → nat_lt (suc taken) (length ps) ≡ nat_lt taken (length (drop 1 ps))
    fewer [] =
        let later : nat_lt (suc taken) 0 ≡ false = grind (arith, nat_tests) in
        let none : nat_lt taken 0 ≡ false = grind (arith, nat_tests) in
        later ∙ sym none
    fewer (p ∷ ps) = less_more taken (length ps)
link_rest posts from on late line taken (entry ∷ entries) =
    let next : suc taken + 1 ≡ suc (taken + 1) = omega arith in
    let behind : ℕ = line + entry_size entry in
    let arrived : link_fault posts from on late behind (suc taken + 1) entries ≡ link_fault (drop 1 posts) from on late behind (taken + 1) entries =
    ap (λ (n : ℕ). link_fault posts from on late behind n entries) next ∙ link_rest posts from on late behind (taken + 1) entries
    in
    (λ i. if same_source entry.source (Actor from) then (if has_message (there posts i) entry.message then arrived i else Some line) else link_rest posts from on late behind taken entries i)
  where
    there : (ps : List Stamped) → slice_get ps (suc taken) ≡ slice_get (drop 1 ps) taken
    there [] = refl
    there (p ∷ ps) = refl

-- the first post is gone
link_taken : (posts left : List Stamped) (from : ℕ) (on : Bool) (late line : ℕ) (entries : List Entry) → left ≡ drop 1 posts → link_fault posts from on late line 1 entries ≡ link_fault left from on late line 0 entries
link_taken posts left from on late line entries is = link_rest posts from on late line 0 entries ∙ ap (λ (ps : List Stamped). link_fault ps from on late line 0 entries) (sym is)

-- ---- an entry more

module _ (posts : List Stamped) (from : ℕ) (on : Bool) (late line size : ℕ) (entries : List Entry) (i : ℕ) (e : Entry) (whole : Option ℕ) (l : i < length entries) (is : e ≡ get_or entries i e) (by_size : size ≡ entry_size e)
    (told : link_fault posts from on late line 0 (drop i entries) ≡ whole) where
  abbrev rest : List Entry
  rest = drop (i + 1) entries

  here : drop i entries ≡ e ∷ rest
  here = drop_more entries i e l ∙ ap (λ (x : Entry). x ∷ rest) (sym is)

  -- from that actor, with its next post
  pub entry_arrived : (left : List Stamped) → same_source e.source (Actor from) ≡ true → has_message (slice_get posts 0) e.message ≡ true → left ≡ drop 1 posts → link_fault left from on late (line + size) 0 rest ≡ whole
  entry_arrived left source message gone =
      sym (link_taken posts left from on late (line + size) rest gone)
      ∙ ap (λ (n : ℕ). link_fault posts from on late (line + n) 1 rest) by_size
      ∙ (λ j. if sym source j then (if sym message j then link_fault posts from on late (line + entry_size e) 1 rest else Some line) else link_fault posts from on late (line + entry_size e) 0 rest)
      ∙ ap (link_fault posts from on late line 0) (sym here)
      ∙ told

  -- from another source
  pub entry_passed : same_source e.source (Actor from) ≡ false → link_fault posts from on late (line + size) 0 rest ≡ whole
  entry_passed source =
      ap (λ (n : ℕ). link_fault posts from on late (line + n) 0 rest) by_size
      ∙ (λ j.
      if sym source j then (if has_message (slice_get posts 0) e.message then link_fault posts from on late (line + entry_size e) 1 rest else Some line)
      else link_fault posts from on late (line + entry_size e) 0 rest)
      ∙ ap (link_fault posts from on late line 0) (sym here)
      ∙ told

  pub entry_small : line + entries_size (drop i entries) + late < 2 ^ 64 → line + size + entries_size rest + late < 2 ^ 64
  entry_small small = let all = ap entries_size here in omega (arith, small, all, by_size)
