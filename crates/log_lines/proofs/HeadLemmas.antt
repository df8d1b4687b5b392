-- The first line, and numbers with a space behind them, against their text.
use Rattle.std.proofs.Common.{◌≡◌, ◌∙◌, ℕ, ◌^◌, ◌<◌, ◌≤◌, List, ◌∷◌, ◌++◌, Some, refl, ap, subst, arith}
use Rattle.std.specs.Prelude.{codes}
use Rattle.std.specs.Fmt.{decimal}
use Rattle.std.proofs.lemmas.Option.{same_Some}
use Rattle.fair_semantics.specs.Fits.{IsFrom1To}
use Rattle.log_lines.specs.declared.line.Head.{Head}
use Rattle.log_lines.specs.Cut.{after}
use Rattle.log_lines.specs.Numbers.{count_of}
use Rattle.log_lines.specs.Lines.{count_at, head_of, number_at}
use Rattle.log_lines.proofs.OptionLemmas.{bind_is, bound}
use Rattle.log_lines.proofs.CutLemmas.{after_again, after_takes, cut_again, cut_takes}
use Rattle.log_lines.proofs.NumberLemmas.{count_again, count_takes, decimal_lacks, number_again, number_takes}

pub number_at_again : (max n : ℕ) (rest : List ℕ) → n ≤ max → n < 2 ^ 64 → number_at max (decimal n ++ 32 ∷ rest) ≡ Some (n, rest)
unfolding number_at
number_at_again max n rest within small = bind_is _ (decimal n, rest) (cut_again 32 (decimal n) rest (decimal_lacks 32 n refl small)) (bind_is _ n (number_again max n within small) refl)

pub count_at_again : (max n : ℕ) (rest : List ℕ) → 1 ≤ n → n ≤ max → n < 2 ^ 64 → count_at max (decimal n ++ 32 ∷ rest) ≡ Some (n, rest)
unfolding count_at
count_at_again max n rest some within small = bind_is _ (decimal n, rest) (cut_again 32 (decimal n) rest (decimal_lacks 32 n refl small)) (bind_is _ n (count_again max n some within small) refl)

pub record TakesAt (low max : ℕ) (text : List ℕ) (p : ℕ × List ℕ) : Type 0 where
  pub above : low ≤ p.0
  pub below : p.0 ≤ max
  pub split : text ≡ decimal (p.0) ++ 32 ∷ p.1

pub number_at_takes : (max : ℕ) (text : List ℕ) (p : ℕ × List ℕ) → max < 2 ^ 64 → number_at max text ≡ Some p → TakesAt 0 max text p
unfolding number_at
number_at_takes max text p low is =
    let parts = bound is in
    let number = bound parts.result in
    let taken = cut_takes 32 text parts.first parts.is in
    let n = number_takes max (parts.first.0) number.first low number.is in
    let same : (number.first, parts.first.1) ≡ p = let e = number.result in cc in
    subst (TakesAt 0 max text) same (record { above = n.above; below = n.below; split = taken.split ∙ ap (λ (l : List ℕ). l ++ 32 ∷ parts.first.1) n.is })

pub count_at_takes : (max : ℕ) (text : List ℕ) (p : ℕ × List ℕ) → max < 2 ^ 64 → count_at max text ≡ Some p → TakesAt 1 max text p
unfolding count_at
count_at_takes max text p low is =
    let parts = bound is in
    let number = bound parts.result in
    let taken = cut_takes 32 text parts.first parts.is in
    let n = count_takes max (parts.first.0) number.first low number.is in
    let same : (number.first, parts.first.1) ≡ p = let e = number.result in cc in
    subst (TakesAt 1 max text) same (record { above = n.above; below = n.below; split = taken.split ∙ ap (λ (l : List ℕ). l ++ 32 ∷ parts.first.1) n.is })

-- ---- the first line

abbrev pub head_body : Head → List ℕ
head_body head = codes "joinlog " ++ (decimal head.version ++ 32 ∷ (codes "arrivals " ++ (decimal head.limits.arrivals ++ 32 ∷ (codes "partials " ++ (decimal head.limits.partials ++ 32 ∷ (codes "feeds " ++ decimal head.feeds))))))

-- what reading the first line looks at
pub record HeadNumbers (head : Head) : Type 0 where
  pub version : IsFrom1To 2 head.version
  pub arrivals : IsFrom1To 1000000 head.limits.arrivals
  pub partials : IsFrom1To 1000000 head.limits.partials
  pub feeds : IsFrom1To 16 head.feeds

pub head_again : (head : Head) → HeadNumbers head → head_of (head_body head) ≡ Some head
unfolding head_of
head_again head fits =
    bind_is _ _ (after_again (codes "joinlog ") _)
    (bind_is _ (head.version, _) (count_at_again 2 head.version _ (fits.version.0) (fits.version.1) (omega (arith, fits.version.1)))
    (bind_is _ _ (after_again (codes "arrivals ") _)
    (bind_is _ (head.limits.arrivals, _) (count_at_again 1000000 head.limits.arrivals _ (fits.arrivals.0) (fits.arrivals.1) (omega (arith, fits.arrivals.1)))
    (bind_is _ _ (after_again (codes "partials ") _)
    (bind_is _ (head.limits.partials, _) (count_at_again 1000000 head.limits.partials _ (fits.partials.0) (fits.partials.1) (omega (arith, fits.partials.1)))
    (bind_is _ _ (after_again (codes "feeds ") _)
    (bind_is _ head.feeds (count_again 16 head.feeds (fits.feeds.0) (fits.feeds.1) (omega (arith, fits.feeds.1))) refl)))))))

pub record TakesHead (text : List ℕ) (head : Head) : Type 0 where
  pub numbers : HeadNumbers head
  pub is : text ≡ head_body head

pub head_takes : (text : List ℕ) (head : Head) → head_of text ≡ Some head → TakesHead text head
unfolding head_of
head_takes text head is =
    let a = bound {o = after (codes "joinlog ") text} is in
    let b = bound {o = count_at 2 a.first} a.result in
    let c = bound {o = after (codes "arrivals ") (b.first.1)} b.result in
    let d = bound {o = count_at 1000000 c.first} c.result in
    let e = bound {o = after (codes "partials ") (d.first.1)} d.result in
    let f = bound {o = count_at 1000000 e.first} e.result in
    let g = bound {o = after (codes "feeds ") (f.first.1)} f.result in
    let h = bound {o = count_of 16 g.first} g.result in
    let version = count_at_takes 2 a.first b.first (omega arith) b.is in
    let arrivals = count_at_takes 1000000 c.first d.first (omega arith) d.is in
    let partials = count_at_takes 1000000 e.first f.first (omega arith) f.is in
    let feeds = count_takes 16 g.first h.first (omega arith) h.is in
    let same : record { version = b.first.0; limits = record { arrivals = d.first.0; partials = f.first.0 }; feeds = h.first } ≡ head = same_Some _ _ h.result in
    subst (TakesHead text) same (record {
      numbers = record { version = (version.above, version.below); arrivals = (arrivals.above, arrivals.below); partials = (partials.above, partials.below); feeds = (feeds.above, feeds.below) };
      is =
          after_takes (codes "joinlog ") text a.first a.is
          ∙ ap (λ (l : List ℕ). codes "joinlog " ++ l) (version.split
          ∙ ap (λ (l : List ℕ). decimal (b.first.0) ++ 32 ∷ l) (after_takes (codes "arrivals ") (b.first.1) c.first c.is
          ∙ ap (λ (l : List ℕ). codes "arrivals " ++ l) (arrivals.split
          ∙ ap (λ (l : List ℕ). decimal (d.first.0) ++ 32 ∷ l) (after_takes (codes "partials ") (d.first.1) e.first e.is
          ∙ ap (λ (l : List ℕ). codes "partials " ++ l) (partials.split
          ∙ ap (λ (l : List ℕ). decimal (f.first.0) ++ 32 ∷ l) (after_takes (codes "feeds ") (f.first.1) g.first g.is
          ∙ ap (λ (l : List ℕ). codes "feeds " ++ l) feeds.is))))));
    })
