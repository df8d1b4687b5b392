use Rattle.std.proofs.Common.{◌≡◌, ◌∙◌, ◌∷◌, ◌++◌, [], ℕ, List, ap, refl}
use Rattle.std.proofs.lemmas.Result.{err_from_is_err_and}
use Rattle.feed_store.specs.declared.kept.Head.{Head}
use Rattle.feed_store.specs.Kept.{Post, head_of}
use Rattle.feed_store.proofs.KeptLemmas.{kept_same, pushed, same_posts}
use Rattle.feed_store.proofs.packed.Packed.push.Goals as goal

pub invariant_of-self : goal.invariant_of-self
invariant_of-self c =
    let a = c.self.inside in
    kept_same a.heads.items c.reserve.new.self.items a.stock.marks.items a.stock.marks.items a.stock.integers.items a.stock.integers.items a.stock.words.items a.stock.words.items c.reserve.ensures.items refl refl refl c.self.invariant

pub returns-in_err-reserve-clause-err : goal.returns-in_err-reserve-clause-err
returns-in_err-reserve-clause-err c =
    let a = c.self.inside in
    let p = err_from_is_err_and c.from_residual.result c.from_residual.ensures.1 in
    rw p.1 (same_posts a.heads.items c.reserve.new.self.items a.stock.marks.items a.stock.marks.items a.stock.integers.items a.stock.integers.items a.stock.words.items a.stock.words.items c.reserve.ensures.items refl refl refl ∙ c.self.view_is)

pub invariant_of-self-in_err-push_values : goal.invariant_of-self-in_err-push_values
invariant_of-self-in_err-push_values c =
    let a = c.self.inside in
    let s = c.push_values.new.stock in
    let same = c.in_err-push_values.ensures in
    kept_same a.heads.items c.reserve.new.self.items a.stock.marks.items s.marks.items a.stock.integers.items s.integers.items a.stock.words.items s.words.items c.reserve.ensures.items same.same_marks same.same_integers same.same_words c.self.invariant

pub returns-in_err-push_values-clause-err : goal.returns-in_err-push_values-clause-err
returns-in_err-push_values-clause-err c =
    let a = c.self.inside in
    let s = c.push_values.new.stock in
    let same = c.in_err-push_values.ensures in
    let p = err_from_is_err_and c.from_residual-in_err-push_values.result c.from_residual-in_err-push_values.ensures.1 in
    rw p.1 (same_posts a.heads.items c.reserve.new.self.items a.stock.marks.items s.marks.items a.stock.integers.items s.integers.items a.stock.words.items s.words.items c.reserve.ensures.items same.same_marks same.same_integers same.same_words ∙ c.self.view_is)

pub invariant_of-self-2 : goal.invariant_of-self-2
invariant_of-self-2 c =
    let a = c.self.inside in
    let s = c.push_values.new.stock in
    let post : Post = (c.args.target, c.args.message.now) in
    let more = c.in_ok-push_values.ensures in
    let heads : c.push_reserved.new.self.items ≡ a.heads.items ++ head_of post ∷ [] =
    c.push_reserved.ensures.items ∙ ap (λ (hs : List Head). hs ++ record { target = c.args.target; kind = c.args.message.now.kind; count = c.len-values.result } ∷ []) c.reserve.ensures.items
    ∙ ap (λ (n : ℕ). a.heads.items ++ record { target = c.args.target; kind = c.args.message.now.kind; count = n } ∷ []) c.len-values.ensures.count in
    (pushed a.heads.items a.stock.marks.items a.stock.integers.items a.stock.words.items c.push_reserved.new.self.items s.marks.items s.integers.items s.words.items post c.self.invariant (c.len-values.ensures.few, more.texts) heads more.marks more.integers more.words).kept

pub returns-clause-ok : goal.returns-clause-ok
returns-clause-ok c =
    let a = c.self.inside in
    let s = c.push_values.new.stock in
    let post : Post = (c.args.target, c.args.message.now) in
    let more = c.in_ok-push_values.ensures in
    let heads : c.push_reserved.new.self.items ≡ a.heads.items ++ head_of post ∷ [] =
    c.push_reserved.ensures.items ∙ ap (λ (hs : List Head). hs ++ record { target = c.args.target; kind = c.args.message.now.kind; count = c.len-values.result } ∷ []) c.reserve.ensures.items
    ∙ ap (λ (n : ℕ). a.heads.items ++ record { target = c.args.target; kind = c.args.message.now.kind; count = n } ∷ []) c.len-values.ensures.count in
    (pushed a.heads.items a.stock.marks.items a.stock.integers.items a.stock.words.items c.push_reserved.new.self.items s.marks.items s.integers.items s.words.items post c.self.invariant (c.len-values.ensures.few, more.texts) heads more.marks more.integers more.words).posts ∙ ap (λ (posts : List Post). posts ++ post ∷ []) c.self.view_is
