-- What is kept of posts, and the posts of which it is kept.
use Rattle.std.specs.Prelude.{◌≡◌, ℕ, ℤ, pos, ◌<◌, ◌≤◌, List, [], ◌∷◌, length, map, take, drop}
use Rattle.std.specs.List.{AllByRecursion, flat_map}
use Rattle.join_base.specs.declared.message.Message.{Message}
use Rattle.join_base.specs.declared.message.Value.{Value}
use Rattle.join_base.specs.declared.message.Value.TheVariants as value
use Rattle.join_base.specs.Text.{IsText}
use Rattle.feed_store.specs.declared.kept.Head.{Head}
use Rattle.feed_store.specs.declared.kept.Mark.{Mark}
use Rattle.feed_store.specs.declared.kept.Mark.TheVariants as mark

-- a message for the actor of a number
abbrev pub Post : Type 0
Post = ℕ × Message

-- ---- what is kept of values

abbrev pub mark_of : Value → Mark
mark_of (value.Int n) = mark.Integer
mark_of (value.Words text) = mark.Words (length text)

abbrev pub part_integers : Value → List ℤ
part_integers (value.Int n) = n ∷ []
part_integers (value.Words text) = []

abbrev pub part_words : Value → List ℕ
part_words (value.Int n) = []
part_words (value.Words text) = text

abbrev pub marks_of : List Value → List Mark
marks_of values = flat_map (λ (v : Value). mark_of v ∷ []) values

abbrev pub integers_of : List Value → List ℤ
integers_of values = flat_map part_integers values

abbrev pub words_of : List Value → List ℕ
words_of values = flat_map part_words values

-- a text is one
abbrev pub HasText : Value → Type 0
HasText (value.Int n) = Unit {0}
HasText (value.Words text) = IsText 120 text

-- ---- what is kept of posts

abbrev pub head_of : Post → Head
head_of post = record { target = post.0; kind = post.1.kind; count = length post.1.fields }

abbrev pub post_marks : Post → List Mark
post_marks post = marks_of post.1.fields

abbrev pub post_integers : Post → List ℤ
post_integers post = integers_of post.1.fields

abbrev pub post_words : Post → List ℕ
post_words post = words_of post.1.fields

-- at most 8 values, of which each text is one
abbrev pub IsPost : Post → Type 0
IsPost post = (length post.1.fields ≤ 8) × AllByRecursion HasText post.1.fields

-- this is what is kept of these posts
pub record IsKept (posts : List Post) (heads : List Head) (marks : List Mark) (integers : List ℤ) (words : List ℕ) : Type 0 where
  pub own_heads : heads ≡ map head_of posts
  pub own_marks : marks ≡ flat_map post_marks posts
  pub own_integers : integers ≡ flat_map post_integers posts
  pub own_words : words ≡ flat_map post_words posts
  pub own_posts : AllByRecursion IsPost posts

-- ---- the values of marks

abbrev pub first_of : List ℤ → ℤ
first_of [] = pos 0
first_of (n ∷ integers) = n

abbrev pub rest_of : List ℤ → List ℤ
rest_of [] = []
rest_of (n ∷ integers) = integers

abbrev pub value_at : Mark → List ℤ → List ℕ → Value
value_at mark.Integer integers words = value.Int (first_of integers)
value_at (mark.Words size) integers words = value.Words (take size words)

-- what stands behind the value of a mark
abbrev pub integers_behind : Mark → List ℤ → List ℤ
integers_behind mark.Integer integers = rest_of integers
integers_behind (mark.Words size) integers = integers

abbrev pub words_behind : Mark → List ℕ → List ℕ
words_behind mark.Integer words = words
words_behind (mark.Words size) words = drop size words

abbrev pub values_of : List Mark → List ℤ → List ℕ → List Value
values_of [] integers words = []
values_of (m ∷ marks) integers words = value_at m integers words ∷ values_of marks (integers_behind m integers) (words_behind m words)

-- what stands behind the values of marks
abbrev pub all_integers_behind : List Mark → List ℤ → List ℤ
all_integers_behind [] integers = integers
all_integers_behind (m ∷ marks) integers = all_integers_behind marks (integers_behind m integers)

abbrev pub all_words_behind : List Mark → List ℕ → List ℕ
all_words_behind [] words = words
all_words_behind (m ∷ marks) words = all_words_behind marks (words_behind m words)

-- the value of a mark stands there
abbrev pub CanRead : Mark → List ℤ → List ℕ → Type 0
CanRead mark.Integer integers words = 0 < length integers
CanRead (mark.Words size) integers words = (size ≤ length words) × IsText 120 (take size words)

abbrev pub CanReadAll : List Mark → List ℤ → List ℕ → Type 0
CanReadAll [] integers words = Unit {0}
CanReadAll (m ∷ marks) integers words = CanRead m integers words × CanReadAll marks (integers_behind m integers) (words_behind m words)

-- ---- the posts of heads

abbrev pub post_at : Head → List Mark → List ℤ → List ℕ → Post
post_at head marks integers words = (head.target, record { kind = head.kind; fields = values_of marks integers words })

abbrev pub posts_of : List Head → List Mark → List ℤ → List ℕ → List Post
posts_of [] marks integers words = []
posts_of (head ∷ heads) marks integers words =
    post_at head (take head.count marks) integers words
    ∷ posts_of heads (drop head.count marks) (all_integers_behind (take head.count marks) integers) (all_words_behind (take head.count marks) words)
