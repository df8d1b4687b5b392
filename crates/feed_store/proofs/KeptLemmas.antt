-- What is kept of posts, and that the posts are read of it.
use Rattle.std.proofs.Common.{◌≡◌, ◌∙◌, ℕ, ℤ, suc, ◌+◌, ◌<◌, ◌≤◌, List, [], ◌∷◌, ◌++◌, Some, slice_get, get_or, take, drop, length, map, refl, ap, sym, subst, arith, append_assoc}
use Rattle.std.specs.List.{AllByRecursion, flat_map}
use Rattle.std.proofs.lemmas.Grind.{flat_map-append}
use Rattle.std.proofs.lemmas.List.{append-nil, length-append, map-append, take_at, drop_at, drop_more, take_more}
use Rattle.std.proofs.lemmas.Option.{slice_get_within, get_or_from_slice_get}
use Rattle.join_base.specs.declared.message.Value.{Value}
use Rattle.join_base.specs.declared.message.Value.TheVariants as value
use Rattle.join_base.specs.Text.{IsText}
use Rattle.join_base.proofs.EachLemmas.{each_last}
use Rattle.feed_store.specs.declared.kept.Head.{Head}
use Rattle.feed_store.specs.declared.kept.Mark.{Mark}
use Rattle.feed_store.specs.Kept.{CanRead, CanReadAll, HasText, IsKept, IsPost, Post, all_integers_behind, all_words_behind, head_of, integers_behind, integers_of, marks_of, post_at, post_integers, post_marks, post_words, posts_of, value_at, values_of, words_behind, words_of}

-- ---- values

length_marks : (values : List Value) → length (marks_of values) ≡ length values
length_marks [] = refl
length_marks (v ∷ values) = ap (λ (n : ℕ). suc n) (length_marks values)

front_words : (text words more : List ℕ) → take (length text) ((text ++ words) ++ more) ≡ text
front_words text words more = ap (λ (ws : List ℕ). take (length text) ws) (append_assoc text words more) ∙ take_at text (words ++ more) (length text) refl

behind_words : (text words more : List ℕ) → drop (length text) ((text ++ words) ++ more) ≡ words ++ more
behind_words text words more = ap (λ (ws : List ℕ). drop (length text) ws) (append_assoc text words more) ∙ drop_at text (words ++ more) (length text) refl

values_back : (values : List Value) (is : List ℤ) (ws : List ℕ) → values_of (marks_of values) (integers_of values ++ is) (words_of values ++ ws) ≡ values
values_back [] is ws = refl
values_back (value.Int n ∷ values) is ws = ap (λ (vs : List Value). value.Int n ∷ vs) (values_back values is ws)
values_back (value.Words text ∷ values) is ws =
    ap (λ (own : List ℕ). value.Words own ∷ values_of (marks_of values) (integers_of values ++ is) (drop (length text) ((text ++ words_of values) ++ ws))) (front_words text (words_of values) ws)
    ∙ ap (λ (rest : List ℕ). value.Words text ∷ values_of (marks_of values) (integers_of values ++ is) rest) (behind_words text (words_of values) ws)
    ∙ ap (λ (vs : List Value). value.Words text ∷ vs) (values_back values is ws)

integers_back : (values : List Value) (is : List ℤ) → all_integers_behind (marks_of values) (integers_of values ++ is) ≡ is
integers_back [] is = refl
integers_back (value.Int n ∷ values) is = integers_back values is
integers_back (value.Words text ∷ values) is = integers_back values is

words_back : (values : List Value) (ws : List ℕ) → all_words_behind (marks_of values) (words_of values ++ ws) ≡ ws
words_back [] ws = refl
words_back (value.Int n ∷ values) ws = words_back values ws
words_back (value.Words text ∷ values) ws = ap (λ (rest : List ℕ). all_words_behind (marks_of values) rest) (behind_words text (words_of values) ws) ∙ words_back values ws

can_read : (values : List Value) (is : List ℤ) (ws : List ℕ) → AllByRecursion HasText values → CanReadAll (marks_of values) (integers_of values ++ is) (words_of values ++ ws)
can_read [] is ws texts = tt
can_read (value.Int n ∷ values) is ws texts = (omega arith, can_read values is ws texts.1)
can_read (value.Words text ∷ values) is ws texts =
    let within : length text ≤ length ((text ++ words_of values) ++ ws) = omega (arith, length-append (text ++ words_of values) ws, length-append text (words_of values)) in
    let own = subst (λ (own : List ℕ). IsText 120 own) (sym (front_words text (words_of values) ws)) texts.0 in
    let rest = subst (λ (rest : List ℕ). CanReadAll (marks_of values) (integers_of values ++ is) rest) (sym (behind_words text (words_of values) ws)) (can_read values is ws texts.1) in
    ((within, own), rest)

-- ---- one post in front of others

-- the values of the post are read, and what is behind them
record Reads (post : Post) (marks : List Mark) (integers : List ℤ) (words : List ℕ) (ms : List Mark) (is : List ℤ) (ws : List ℕ) : Type 0 where
  pub within : length post.1.fields ≤ length marks
  pub can : CanReadAll (take (length post.1.fields) marks) integers words
  pub own : values_of (take (length post.1.fields) marks) integers words ≡ post.1.fields
  pub rest_marks : drop (length post.1.fields) marks ≡ ms
  pub rest_integers : all_integers_behind (take (length post.1.fields) marks) integers ≡ is
  pub rest_words : all_words_behind (take (length post.1.fields) marks) words ≡ ws

reads_at : (post : Post) (ms : List Mark) (is : List ℤ) (ws : List ℕ) → AllByRecursion HasText post.1.fields → Reads post (post_marks post ++ ms) (post_integers post ++ is) (post_words post ++ ws) ms is ws
reads_at post ms is ws texts =
    let fields = post.1.fields in
    let long = length_marks fields in
    let front : take (length fields) (marks_of fields ++ ms) ≡ marks_of fields = take_at (marks_of fields) ms (length fields) long in
    record {
      within = omega (arith, length-append (marks_of fields) ms, long);
      can = subst (λ (m : List Mark). CanReadAll m (integers_of fields ++ is) (words_of fields ++ ws)) (sym front) (can_read fields is ws texts);
      own = ap (λ (m : List Mark). values_of m (integers_of fields ++ is) (words_of fields ++ ws)) front ∙ values_back fields is ws;
      rest_marks = drop_at (marks_of fields) ms (length fields) long;
      rest_integers = ap (λ (m : List Mark). all_integers_behind m (integers_of fields ++ is)) front ∙ integers_back fields is;
      rest_words = ap (λ (m : List Mark). all_words_behind m (words_of fields ++ ws)) front ∙ words_back fields ws;
    }

reads : (post : Post) (marks : List Mark) (integers : List ℤ) (words : List ℕ) (ms : List Mark) (is : List ℤ) (ws : List ℕ) → AllByRecursion HasText post.1.fields → marks ≡ post_marks post ++ ms → integers ≡ post_integers post ++ is
    → words ≡ post_words post ++ ws → Reads post marks integers words ms is ws
reads post marks integers words ms is ws texts m i w =
    subst (λ (x : List Mark). Reads post x integers words ms is ws) (sym m) (
    subst (λ (x : List ℤ). Reads post (post_marks post ++ ms) x words ms is ws) (sym i) (
    subst (λ (x : List ℕ). Reads post (post_marks post ++ ms) (post_integers post ++ is) x ms is ws) (sym w) (reads_at post ms is ws texts)))

-- ---- posts

-- the post with other values
abbrev with_values : Post → List Value → Post
with_values post values = (post.0, record { kind = post.1.kind; fields = values })

posts_back : (posts : List Post) → AllByRecursion IsPost posts → posts_of (map head_of posts) (flat_map post_marks posts) (flat_map post_integers posts) (flat_map post_words posts) ≡ posts
posts_back [] all = refl
posts_back (post ∷ posts) all =
    let heads = map head_of posts in
    let marks = flat_map post_marks (post ∷ posts) in
    let integers = flat_map post_integers (post ∷ posts) in
    let words = flat_map post_words (post ∷ posts) in
    let count = length post.1.fields in
    let one = reads_at post (flat_map post_marks posts) (flat_map post_integers posts) (flat_map post_words posts) (all.0.1) in
    ap (λ (values : List Value). with_values post values ∷ posts_of heads (drop count marks) (all_integers_behind (take count marks) integers) (all_words_behind (take count marks) words)) one.own
    ∙ ap (λ (m : List Mark). post ∷ posts_of heads m (all_integers_behind (take count marks) integers) (all_words_behind (take count marks) words)) one.rest_marks
    ∙ ap (λ (i : List ℤ). post ∷ posts_of heads (flat_map post_marks posts) i (all_words_behind (take count marks) words)) one.rest_integers
    ∙ ap (λ (w : List ℕ). post ∷ posts_of heads (flat_map post_marks posts) (flat_map post_integers posts) w) one.rest_words
    ∙ ap (λ (ps : List Post). post ∷ ps) (posts_back posts all.1)

-- the same lists
pub same_posts : (heads hs : List Head) (marks ms : List Mark) (integers is : List ℤ) (words ws : List ℕ) → hs ≡ heads → ms ≡ marks → is ≡ integers → ws ≡ words → posts_of hs ms is ws ≡ posts_of heads marks integers words
same_posts heads hs marks ms integers is words ws h m i w =
    ap (λ (x : List Head). posts_of x ms is ws) h ∙ ap (λ (x : List Mark). posts_of heads x is ws) m
    ∙ ap (λ (x : List ℤ). posts_of heads marks x ws) i ∙ ap (λ (x : List ℕ). posts_of heads marks integers x) w

posts_are : (posts : List Post) (heads : List Head) (marks : List Mark) (integers : List ℤ) (words : List ℕ) → IsKept posts heads marks integers words → posts_of heads marks integers words ≡ posts
posts_are posts heads marks integers words kept =
    same_posts (map head_of posts) heads (flat_map post_marks posts) marks (flat_map post_integers posts) integers (flat_map post_words posts) words
    kept.own_heads kept.own_marks kept.own_integers kept.own_words
    ∙ posts_back posts kept.own_posts

settled : (posts : List Post) (heads : List Head) (marks : List Mark) (integers : List ℤ) (words : List ℕ) → IsKept posts heads marks integers words → IsKept (posts_of heads marks integers words) heads marks integers words
settled posts heads marks integers words kept = subst (λ (ps : List Post). IsKept ps heads marks integers words) (sym (posts_are posts heads marks integers words kept)) kept

pub kept_same : (heads hs : List Head) (marks ms : List Mark) (integers is : List ℤ) (words ws : List ℕ) → hs ≡ heads → ms ≡ marks → is ≡ integers → ws ≡ words
    → IsKept (posts_of heads marks integers words) heads marks integers words → IsKept (posts_of hs ms is ws) hs ms is ws
kept_same heads hs marks ms integers is words ws h m i w kept =
    settled (posts_of heads marks integers words) hs ms is ws (
    record {
      own_heads = h ∙ kept.own_heads;
      own_marks = m ∙ kept.own_marks;
      own_integers = i ∙ kept.own_integers;
      own_words = w ∙ kept.own_words;
      own_posts = kept.own_posts;
    })

pub kept_none : (heads : List Head) (marks : List Mark) (integers : List ℤ) (words : List ℕ) → heads ≡ [] → marks ≡ [] → integers ≡ [] → words ≡ [] → IsKept (posts_of heads marks integers words) heads marks integers words
kept_none heads marks integers words h m i w = settled [] heads marks integers words (record { own_heads = h; own_marks = m; own_integers = i; own_words = w; own_posts = tt })

pub posts_none : (heads : List Head) (marks : List Mark) (integers : List ℤ) (words : List ℕ) → heads ≡ [] → posts_of heads marks integers words ≡ []
posts_none heads marks integers words h = ap (λ (x : List Head). posts_of x marks integers words) h

pub length_posts : (heads : List Head) (marks : List Mark) (integers : List ℤ) (words : List ℕ) → length (posts_of heads marks integers words) ≡ length heads
length_posts [] marks integers words = refl
length_posts (head ∷ heads) marks integers words =
    ap (λ (n : ℕ). suc n) (length_posts heads (drop head.count marks) (all_integers_behind (take head.count marks) integers) (all_words_behind (take head.count marks) words))

-- ---- the first post

first_head : Head → List Head → Head
first_head default [] = default
first_head default (head ∷ heads) = head

rest_heads : List Head → List Head
rest_heads [] = []
rest_heads (head ∷ heads) = heads

-- it can be read, and the others are kept behind it
pub record IsNext (head : Head) (heads : List Head) (marks : List Mark) (integers : List ℤ) (words : List ℕ) : Type 0 where
  pub within : head.count ≤ length marks
  pub few : head.count ≤ 8
  pub can : CanReadAll (take head.count marks) integers words
  pub others : IsKept (posts_of heads (drop head.count marks) (all_integers_behind (take head.count marks) integers) (all_words_behind (take head.count marks) words)) heads
      (drop head.count marks) (all_integers_behind (take head.count marks) integers) (all_words_behind (take head.count marks) words)

next_kept : (posts : List Post) (head : Head) (heads : List Head) (marks : List Mark) (integers : List ℤ) (words : List ℕ) → IsKept posts (head ∷ heads) marks integers words → IsNext head heads marks integers words
unfolding first_head rest_heads
next_kept [] head heads marks integers words kept = let none : head ∷ heads ≡ [] = kept.own_heads in absurd cc
next_kept (post ∷ posts) head heads marks integers words kept =
    let same : head ≡ head_of post = ap (first_head head) kept.own_heads in
    let others : heads ≡ map head_of posts = ap rest_heads kept.own_heads in
    let count = length post.1.fields in
    let one = reads post marks integers words (flat_map post_marks posts) (flat_map post_integers posts) (flat_map post_words posts) (kept.own_posts.0.1) kept.own_marks kept.own_integers kept.own_words in
    subst (λ (h : Head). IsNext h heads marks integers words) (sym same) (
    record {
      within = one.within;
      few = kept.own_posts.0.0;
      can = one.can;
      others = settled posts heads (drop count marks) (all_integers_behind (take count marks) integers) (all_words_behind (take count marks) words) (
          record {
            own_heads = others;
            own_marks = one.rest_marks;
            own_integers = one.rest_integers;
            own_words = one.rest_words;
            own_posts = kept.own_posts.1;
          });
    })

pub next_of : (all : List Head) (head : Head) (heads : List Head) (marks : List Mark) (integers : List ℤ) (words : List ℕ) → IsKept (posts_of all marks integers words) all marks integers words → all ≡ head ∷ heads
    → IsNext head heads marks integers words
next_of all head heads marks integers words kept first =
    next_kept (posts_of (head ∷ heads) marks integers words) head heads marks integers words (
    subst (λ (x : List Head). IsKept (posts_of x marks integers words) x marks integers words) first kept)

-- the first post in front of the others
pub first_post : (all : List Head) (head : Head) (heads : List Head) (marks ms others : List Mark) (integers is : List ℤ) (words ws : List ℕ) → all ≡ head ∷ heads → ms ≡ take head.count marks → others ≡ drop head.count marks
    → is ≡ all_integers_behind ms integers → ws ≡ all_words_behind ms words → posts_of all marks integers words ≡ post_at head ms integers words ∷ posts_of heads others is ws
first_post all head heads marks ms others integers is words ws first m o i w =
    ap (λ (x : List Head). posts_of x marks integers words) first
    ∙ ap (λ (x : List Mark). post_at head x integers words ∷ posts_of heads (drop head.count marks) (all_integers_behind x integers) (all_words_behind x words)) (sym m)
    ∙ ap (λ (x : List Mark). post_at head ms integers words ∷ posts_of heads x (all_integers_behind ms integers) (all_words_behind ms words)) (sym o)
    ∙ ap (λ (x : List ℤ). post_at head ms integers words ∷ posts_of heads others x (all_words_behind ms words)) (sym i)
    ∙ ap (λ (x : List ℕ). post_at head ms integers words ∷ posts_of heads others is x) (sym w)

pub posts_empty : (heads : List Head) (marks : List Mark) (integers : List ℤ) (words : List ℕ) → length heads ≡ 0 → posts_of heads marks integers words ≡ []
posts_empty [] marks integers words none = refl
posts_empty (head ∷ heads) marks integers words none = absurd (omega (arith, none))

-- ---- one post more

flat_more : {X A : Type 0} (f : A → List X) (xs : List A) (x : A) → flat_map f (xs ++ x ∷ []) ≡ flat_map f xs ++ f x
flat_more f xs x = flat_map-append f xs (x ∷ []) ∙ ap (λ ys. flat_map f xs ++ ys) (append-nil (f x))

-- the lists with the post
pub record Pushed (heads : List Head) (marks : List Mark) (integers : List ℤ) (words : List ℕ) (hs : List Head) (ms : List Mark) (is : List ℤ) (ws : List ℕ) (post : Post) : Type 0 where
  pub kept : IsKept (posts_of hs ms is ws) hs ms is ws
  pub posts : posts_of hs ms is ws ≡ posts_of heads marks integers words ++ post ∷ []

pub pushed : (heads : List Head) (marks : List Mark) (integers : List ℤ) (words : List ℕ) (hs : List Head) (ms : List Mark) (is : List ℤ) (ws : List ℕ) (post : Post)
    → IsKept (posts_of heads marks integers words) heads marks integers words → IsPost post → hs ≡ heads ++ head_of post ∷ [] → ms ≡ marks ++ post_marks post → is ≡ integers ++ post_integers post → ws ≡ words ++ post_words post
    → Pushed heads marks integers words hs ms is ws post
pushed heads marks integers words hs ms is ws post kept fits h m i w =
    let posts = posts_of heads marks integers words in
    let more : IsKept (posts ++ post ∷ []) hs ms is ws =
    record {
      own_heads = h ∙ ap (λ (x : List Head). x ++ head_of post ∷ []) kept.own_heads ∙ sym (map-append head_of posts (post ∷ []));
      own_marks = m ∙ ap (λ (x : List Mark). x ++ post_marks post) kept.own_marks ∙ sym (flat_more post_marks posts post);
      own_integers = i ∙ ap (λ (x : List ℤ). x ++ post_integers post) kept.own_integers ∙ sym (flat_more post_integers posts post);
      own_words = w ∙ ap (λ (x : List ℕ). x ++ post_words post) kept.own_words ∙ sym (flat_more post_words posts post);
      own_posts = each_last IsPost posts post kept.own_posts fits;
    } in
    record {
      kept = settled (posts ++ post ∷ []) hs ms is ws more;
      posts = posts_are (posts ++ post ∷ []) hs ms is ws more;
    }

-- ---- one value more

taken_more : (values : List Value) (place : ℕ) (v : Value) → slice_get values place ≡ Some v → take place values ++ v ∷ [] ≡ take (place + 1) values
taken_more values place v found =
    let within = slice_get_within values place v found in
    let same = get_or_from_slice_get values place v v found in
    ap (λ (x : Value). take place values ++ x ∷ []) (sym same) ∙ sym (take_more values place v within)

pub part_more : {X : Type 0} (f : Value → List X) (values : List Value) (place : ℕ) (v : Value) (old now new : List X) → slice_get values place ≡ Some v → now ≡ old ++ flat_map f (take place values) → new ≡ now ++ f v
    → new ≡ old ++ flat_map f (take (place + 1) values)
part_more f values place v old now new found before more =
    more ∙ ap (λ xs. xs ++ f v) before ∙ append_assoc old (flat_map f (take place values)) (f v)
    ∙ ap (λ xs. old ++ xs) (sym (flat_more f (take place values) v)) ∙ ap (λ (vs : List Value). old ++ flat_map f vs) (taken_more values place v found)

pub texts_more : (values : List Value) (place : ℕ) (v : Value) → slice_get values place ≡ Some v → AllByRecursion HasText (take place values) → HasText v → AllByRecursion HasText (take (place + 1) values)
texts_more values place v found texts text = subst (AllByRecursion HasText) (taken_more values place v found) (each_last HasText (take place values) v texts text)

-- what there was is in front of what there is
pub front_kept : {X : Type 0} (old more new : List X) → new ≡ old ++ more → take (length old) new ≡ old
front_kept old more new is = ap (λ xs. take (length old) xs) is ∙ take_at old more (length old) refl

-- ---- one mark after the other

next_mark : (marks : List Mark) (i : ℕ) (m : Mark) → i < length marks → m ≡ get_or marks i m → drop i marks ≡ m ∷ drop (i + 1) marks
next_mark marks i m within is = drop_more marks i m within ∙ ap (λ (x : Mark). x ∷ drop (i + 1) marks) (sym is)

-- the value of the next mark can be read, and then the others
pub read_step : (marks : List Mark) (i : ℕ) (m : Mark) (integers : List ℤ) (words : List ℕ) → i < length marks → m ≡ get_or marks i m → CanReadAll (drop i marks) integers words
    → CanRead m integers words × CanReadAll (drop (i + 1) marks) (integers_behind m integers) (words_behind m words)
read_step marks i m integers words within is can = subst (λ (ms : List Mark). CanReadAll ms integers words) (next_mark marks i m within is) can

pub can_step : (marks : List Mark) (i : ℕ) (m : Mark) (integers is : List ℤ) (words ws : List ℕ) → i < length marks → m ≡ get_or marks i m → is ≡ integers_behind m integers → ws ≡ words_behind m words
    → CanReadAll (drop i marks) integers words → CanReadAll (drop (i + 1) marks) is ws
can_step marks i m integers is words ws within own ei ew can =
    subst (λ (x : List ℤ). CanReadAll (drop (i + 1) marks) x ws) (sym ei) (
    subst (λ (x : List ℕ). CanReadAll (drop (i + 1) marks) (integers_behind m integers) x) (sym ew) (read_step marks i m integers words within own can).1)

pub values_step : (marks : List Mark) (i : ℕ) (m : Mark) (integers is : List ℤ) (words ws : List ℕ) (fields new total : List Value) (v : Value) → i < length marks → m ≡ get_or marks i m
    → is ≡ integers_behind m integers → ws ≡ words_behind m words → v ≡ value_at m integers words → new ≡ fields ++ v ∷ [] → fields ++ values_of (drop i marks) integers words ≡ total
    → new ++ values_of (drop (i + 1) marks) is ws ≡ total
values_step marks i m integers is words ws fields new total v within own ei ew ev more told =
    let rest = values_of (drop (i + 1) marks) (integers_behind m integers) (words_behind m words) in
    ap (λ (x : List ℤ). new ++ values_of (drop (i + 1) marks) x ws) ei ∙ ap (λ (x : List ℕ). new ++ values_of (drop (i + 1) marks) (integers_behind m integers) x) ew
    ∙ ap (λ (x : List Value). x ++ rest) more ∙ append_assoc fields (v ∷ []) rest ∙ ap (λ (x : Value). fields ++ x ∷ rest) ev
    ∙ ap (λ (ms : List Mark). fields ++ values_of ms integers words) (sym (next_mark marks i m within own)) ∙ told

pub integers_step : (marks : List Mark) (i : ℕ) (m : Mark) (integers is total : List ℤ) → i < length marks → m ≡ get_or marks i m → is ≡ integers_behind m integers → all_integers_behind (drop i marks) integers ≡ total
    → all_integers_behind (drop (i + 1) marks) is ≡ total
integers_step marks i m integers is total within own ei told =
    ap (λ (x : List ℤ). all_integers_behind (drop (i + 1) marks) x) ei ∙ ap (λ (ms : List Mark). all_integers_behind ms integers) (sym (next_mark marks i m within own)) ∙ told

pub words_step : (marks : List Mark) (i : ℕ) (m : Mark) (words ws total : List ℕ) → i < length marks → m ≡ get_or marks i m → ws ≡ words_behind m words → all_words_behind (drop i marks) words ≡ total
    → all_words_behind (drop (i + 1) marks) ws ≡ total
words_step marks i m words ws total within own ew told =
    ap (λ (x : List ℕ). all_words_behind (drop (i + 1) marks) x) ew ∙ ap (λ (ms : List Mark). all_words_behind ms words) (sym (next_mark marks i m within own)) ∙ told
