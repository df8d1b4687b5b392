use Rattle.std.proofs.Common.{◌∙◌, List, take, drop, ap, arith, refl, subst, sym}
use Rattle.feed_store.specs.declared.kept.Mark.{Mark}
use Rattle.feed_store.specs.Kept.{CanReadAll, all_integers_behind, all_words_behind}
use Rattle.feed_store.proofs.KeptLemmas.{first_post, kept_same, next_of, posts_empty}
use Rattle.feed_store.proofs.packed_reader.PackedReader.first.Goals as goal

pub split_at-requires : goal.split_at-requires
split_at-requires c = (next_of c.self.inside.heads.now c.in-Some.head.now c.in-Some.heads.now c.self.inside.marks.now c.self.inside.integers.now c.self.inside.words.now c.self.invariant c.in-Some.ensures.cases.0).within

pub all_behind-requires : goal.all_behind-requires
all_behind-requires c =
    let next = next_of c.self.inside.heads.now c.in-Some.head.now c.in-Some.heads.now c.self.inside.marks.now c.self.inside.integers.now c.self.inside.words.now c.self.invariant c.in-Some.ensures.cases.0 in
    record { can = subst (λ (ms : List Mark). CanReadAll ms c.self.inside.integers.now c.self.inside.words.now) (sym c.split_at.ensures.front) next.can }

pub invariant_of-rest : goal.invariant_of-rest
invariant_of-rest c =
    let a = c.self.inside in
    let count = c.in-Some.head.now.count in
    let next = next_of c.self.inside.heads.now c.in-Some.head.now c.in-Some.heads.now c.self.inside.marks.now c.self.inside.integers.now c.self.inside.words.now c.self.invariant c.in-Some.ensures.cases.0 in
    kept_same c.in-Some.heads.now c.in-Some.heads.now (drop count a.marks.now) c.split_at.result.1.now (all_integers_behind (take count a.marks.now) a.integers.now) c.all_behind.result.0.now
    (all_words_behind (take count a.marks.now) a.words.now) c.all_behind.result.1.now refl c.split_at.ensures.back
    (c.all_behind.ensures.integers ∙ ap (λ (ms : List Mark). all_integers_behind ms a.integers.now) c.split_at.ensures.front)
    (c.all_behind.ensures.words ∙ ap (λ (ms : List Mark). all_words_behind ms a.words.now) c.split_at.ensures.front) next.others

pub returns : goal.returns
returns c =
    let a = c.self.inside in
    let next = next_of c.self.inside.heads.now c.in-Some.head.now c.in-Some.heads.now c.self.inside.marks.now c.self.inside.integers.now c.self.inside.words.now c.self.invariant c.in-Some.ensures.cases.0 in (
      omega (arith, next.few, c.split_at.ensures.front_len),
      (
        subst (λ (ms : List Mark). CanReadAll ms a.integers.now a.words.now) (sym c.split_at.ensures.front) next.can,
        sym c.self.view_is
            ∙ first_post a.heads.now c.in-Some.head.now c.in-Some.heads.now a.marks.now c.split_at.result.0.now c.split_at.result.1.now a.integers.now c.all_behind.result.0.now a.words.now c.all_behind.result.1.now
            c.in-Some.ensures.cases.0 c.split_at.ensures.front c.split_at.ensures.back c.all_behind.ensures.integers c.all_behind.ensures.words,
      ),
    )

pub returns-in_default : goal.returns-in_default
returns-in_default c = sym c.self.view_is ∙ posts_empty c.self.inside.heads.now c.self.inside.marks.now c.self.inside.integers.now c.self.inside.words.now c.in_default.ensures.cases
