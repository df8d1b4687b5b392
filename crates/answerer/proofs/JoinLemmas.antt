-- What joining the list of another answerer does.
use Rattle.std.proofs.Common.{◌≡◌, ◌≢◌, ◌∙◌, ◌⊎◌, inl, inr, ◌+◌, ◌<◌, ℕ, zero, suc, List, [], ◌∷◌, ◌++◌, Option, Some, None, IfSome, IsSome, length, take, drop, get_or, refl, sym, ap, subst, arith}
use Rattle.std.proofs.lemmas.List.{take-append-drop, take_more}
use Rattle.join_base.specs.declared.message.Value.{Value}
use Rattle.pattern_core.specs.Members.{IsIn}
use Rattle.pattern_core.proofs.MembersLemmas.{IsIn-append_cases, IsIn-append_left, IsIn-append_right}
use Rattle.fair_semantics.specs.declared.run.Entry.{Entry}
use Rattle.ask_board.specs.declared.view.Ask.{Ask}
use Rattle.ask_board.specs.declared.view.AskView.{AskView}
use Rattle.ask_board.specs.declared.board.AskBoard.{AskBoard}
use Rattle.ask_board.specs.Board.{HasAsk, IsViewOf, StaysKnown, cells_of}
use Rattle.ask_board.specs.View.{AreOfOneBoard, known_of}
use Rattle.answerer.specs.declared.answering.Answers.{Answers}
use Rattle.answerer.specs.declared.noting.Progress.{Progress}
use Rattle.answerer.specs.Answered.{AreKnown, IsOfBoard, IsTried, Joins, known}
use Rattle.answerer.specs.Fit.{FitsIn, IsReply}
use Rattle.answerer.proofs.AnsweredLemmas.{another_stays, ask_cases, stays_on, stays_same}

pub joins_none : (view : AskView) (a : Answers) → IsOfBoard a → Joins view [] a a
joins_none view a of = record {
  board = refl;
  of_board = of;
  stays = λ ask. stays_same (known a ask) (known a ask) refl;
  kept = λ ask h. h;
  listed = λ ask h. inl h;
}

-- what learning one ask says
pub record Learns (view : AskView) (ask : Ask) (b c : Answers) : Type 0 where
  pub board : c.board.now ≡ b.board.now
  pub of_board : IsOfBoard c
  pub asks : c.asks ≡ b.asks
  pub learnt : known c ask ≡ known_of view ask
  pub same : IfSome (known b ask) (λ value. known_of view ask ≡ Some value)
  pub others : (another : Ask) → another ≢ ask → known c another ≡ known b another

stays_learnt : (old learnt now : Option Value) → IfSome old (λ value. learnt ≡ Some value) → now ≡ learnt → StaysKnown old now
stays_learnt None learnt now h e = tt
stays_learnt (Some v) learnt now h e = e ∙ h

learns_stays : (view : AskView) (ask : Ask) (b c : Answers) → Learns view ask b c → (another : Ask) → StaysKnown (known b another) (known c another)
learns_stays view ask b c l another = by (ask_cases another ask)
  where
    by : (another ≡ ask) ⊎ (another ≢ ask) → StaysKnown (known b another) (known c another)
    by (inl e) = subst (λ (x : Ask). StaysKnown (known b x) (known c x)) (sym e) (stays_learnt (known b ask) (known_of view ask) (known c ask) l.same l.learnt)
    by (inr e) = stays_same (known b another) (known c another) (l.others another e)

-- what was learnt stays learnt
still_learnt : (view : AskView) (ask : Ask) (b c : Answers) → Learns view ask b c → (another : Ask) → known b another ≡ known_of view another → known c another ≡ known_of view another
still_learnt view ask b c l another is = by (ask_cases another ask)
  where
    by : (another ≡ ask) ⊎ (another ≢ ask) → known c another ≡ known_of view another
    by (inl e) = subst (λ (x : Ask). known c x ≡ known_of view x) (sym e) l.learnt
    by (inr e) = l.others another e ∙ is

-- one more was learnt, and is not listed yet
pub joins_learnt : (view : AskView) (asks : List Ask) (ask : Ask) (a b c : Answers) → Joins view asks a b → Learns view ask b c → Joins view (asks ++ ask ∷ []) a c
joins_learnt view asks ask a b c j l = record {
  board = l.board ∙ j.board;
  of_board = l.of_board;
  stays = λ another. stays_on (known a another) (known b another) (known c another) (j.stays another) (learns_stays view ask b c l another);
  kept = λ another h. subst (IsIn another) (sym l.asks) (j.kept another h);
  listed = λ another h. by another (j.listed another (subst (IsIn another) l.asks h));
}
  where
    by : (another : Ask) → IsIn another a.asks ⊎ (IsIn another asks × (known b another ≡ known_of view another)) → IsIn another a.asks ⊎ (IsIn another (asks ++ ask ∷ []) × (known c another ≡ known_of view another))
    by another (inl h) = inl h
    by another (inr (h, is)) = inr (IsIn-append_left another asks (ask ∷ []) h, still_learnt view ask b c l another is)

-- and then listed
pub joins_listed : (view : AskView) (asks : List Ask) (ask : Ask) (a c : Answers) (all : List Ask) → Joins view (asks ++ ask ∷ []) a c → known c ask ≡ known_of view ask → all ≡ c.asks ++ ask ∷ [] → Joins view (asks ++ ask ∷ []) a (record { board = c.board; view = c.view; asks = all })
joins_listed view asks ask a c all j learnt is = record {
  board = j.board;
  of_board = j.of_board;
  stays = j.stays;
  kept = λ another h. subst (IsIn another) (sym is) (IsIn-append_left another c.asks (ask ∷ []) (j.kept another h));
  listed = λ another h. by another (IsIn-append_cases another c.asks (ask ∷ []) (subst (IsIn another) is h));
}
  where
    by : (another : Ask) → IsIn another c.asks ⊎ IsIn another (ask ∷ []) → IsIn another a.asks ⊎ (IsIn another (asks ++ ask ∷ []) × (known c another ≡ known_of view another))
    by another (inl h) = j.listed another h
    by another (inr (inl e)) = inr (IsIn-append_right another asks (ask ∷ []) (inl e), subst (λ (x : Ask). known c x ≡ known_of view x) e learnt)
    by another (inr (inr none)) = absurd none

-- ---- the loop over the other's asks

pub in_at : (asks : List Ask) (i : ℕ) (none : Ask) → i < length asks → IsIn (get_or asks i none) asks
in_at [] i none l = absurd (omega arith)
in_at (a ∷ asks) zero none l = inl refl
in_at (a ∷ asks) (suc i) none l = inr (in_at asks i none (omega arith))

next_asks : (asks : List Ask) (i : ℕ) (ask none : Ask) → i < length asks → ask ≡ get_or asks i none → take (i + 1) asks ≡ take i asks ++ ask ∷ []
next_asks asks i ask none l at = take_more asks i none l ∙ ap (λ (y : Ask). take i asks ++ y ∷ []) (sym at)

-- what learning from a view of the board gives
pub learns : (view now : AskView) (ask : Ask) (b : Answers) → IsOfBoard b → AreOfOneBoard b.view now → known_of now ask ≡ known_of view ask → IfSome (known b ask) (λ value. known_of view ask ≡ Some value)
    → ((another : Ask) → another ≢ ask → known_of now another ≡ known b another) → Learns view ask b (record { board = b.board; view = now; asks = b.asks })
learns view now ask b of one learnt same others = record { board = refl; of_board = one ∙ of; asks = refl; learnt = learnt; same = same; others = others }

-- the two views are of one board still
pub one_board : (view : AskView) (asks : List Ask) (a b : Answers) → IsOfBoard a → AreOfOneBoard a.view view → Joins view asks a b → AreOfOneBoard b.view view
one_board view asks a b of one j = one ∙ of ∙ ap cells_of (sym j.board) ∙ sym j.of_board

pub join_step : (view : AskView) (asks : List Ask) (i : ℕ) (ask none : Ask) (a b c : Answers) (all : List Ask) → i < length asks → ask ≡ get_or asks i none → Joins view (take i asks) a b → Learns view ask b c → all ≡ c.asks ++ ask ∷ []
    → Joins view (take (i + 1) asks) a (record { board = c.board; view = c.view; asks = all })
join_step view asks i ask none a b c all l at j learn is =
    subst (λ (own : List Ask). Joins view own a (record { board = c.board; view = c.view; asks = all })) (sym (next_asks asks i ask none l at))
    (joins_listed view (take i asks) ask a c all (joins_learnt view (take i asks) ask a b c j learn) learn.learnt is)

-- those so far were listed
pub AreListed : List Ask → Answers → Type 0
AreListed asks a = (ask : Ask) → IsIn ask asks → IsIn ask a.asks

pub listed_step : (view : AskView) (asks : List Ask) (i : ℕ) (ask none : Ask) (b c : Answers) (all : List Ask) → i < length asks → ask ≡ get_or asks i none → Learns view ask b c → all ≡ c.asks ++ ask ∷ []
    → ((x : Ask) → IsIn x (take i asks) → IsIn x b.asks) → (x : Ask) → IsIn x (take (i + 1) asks) → IsIn x all
listed_step view asks i ask none b c all l at learn is before x h =
    subst (IsIn x) (sym is) (by (IsIn-append_cases x (take i asks) (ask ∷ []) (subst (IsIn x) (next_asks asks i ask none l at) h)))
  where
    by : IsIn x (take i asks) ⊎ IsIn x (ask ∷ []) → IsIn x (c.asks ++ ask ∷ [])
    by (inl own) = IsIn-append_left x c.asks (ask ∷ []) (subst (IsIn x) (sym learn.asks) (before x own))
    by (inr own) = IsIn-append_right x c.asks (ask ∷ []) own

-- where it stops early, it joined the first ones
pub joins_some : (view : AskView) (asks : List Ask) (i : ℕ) (ask none : Ask) (a b c : Answers) → i < length asks → ask ≡ get_or asks i none → Joins view (take i asks) a b → Learns view ask b c → Joins view asks a c
joins_some view asks i ask none a b c l at j learn =
    let first = joins_learnt view (take i asks) ask a b c j learn in
    wider (subst (λ (own : List Ask). Joins view own a c) (sym (next_asks asks i ask none l at)) first)
  where
    inside : (x : Ask) → IsIn x (take (i + 1) asks) → IsIn x asks
    inside x h = subst (IsIn x) (take-append-drop (i + 1) asks) (IsIn-append_left x (take (i + 1) asks) (drop (i + 1) asks) h)

    wider : Joins view (take (i + 1) asks) a c → Joins view asks a c
    wider k = record {
      board = k.board;
      of_board = k.of_board;
      stays = k.stays;
      kept = k.kept;
      listed = λ x h. by x (k.listed x h);
    }
      where
        by : (x : Ask) → IsIn x a.asks ⊎ (IsIn x (take (i + 1) asks) × (known c x ≡ known_of view x)) → IsIn x a.asks ⊎ (IsIn x asks × (known c x ≡ known_of view x))
        by x (inl h) = inl h
        by x (inr (h, is)) = inr (inside x h, is)

-- ---- the fit

some_stays : (old now : Option Value) → StaysKnown old now → IsSome old → IsSome now
some_stays None now stays some = absurd cc
some_stays (Some v) now stays some = subst (λ (o : Option Value). IsSome o) (sym stays) refl

-- a value is known of each ask on the list, as it was of those on both lists
pub known_joined : (view : AskView) (asks : List Ask) (a b : Answers) → Joins view asks a b → AreKnown a → ((ask : Ask) → IsIn ask asks → IsSome (known_of view ask)) → AreKnown b
known_joined view asks a b j own theirs ask h = by (j.listed ask h)
  where
    by : IsIn ask a.asks ⊎ (IsIn ask asks × (known b ask ≡ known_of view ask)) → IsSome (known b ask)
    by (inl here) = some_stays (known a ask) (known b ask) (j.stays ask) (own ask here)
    by (inr (here, same)) = subst (λ (o : Option Value). IsSome o) (sym same) (theirs ask here)

-- views of boards that have the same cells are of one board
pub one_view : (board other : AskBoard) (view theirs : AskView) → cells_of other ≡ cells_of board → IsViewOf board view → IsViewOf other theirs → AreOfOneBoard view theirs
one_view board other view theirs same own their = their ∙ same ∙ sym own

pub fits_joined : (actor : ℕ) (entries : List Entry) (p q : Progress) (a others b : Answers) → FitsIn actor entries p a → FitsIn actor entries q others → Joins others.view others.asks a b → FitsIn actor entries p b
fits_joined actor entries p q a others b fit theirs j = record {
  of_board = j.of_board;
  noted = fit.noted;
  done = fit.done;
  answered = λ ask h own. answered ask own (j.listed ask h);
  tried = λ place entry number value ask there h back here has.
      tried ask value (fit.tried place entry number value ask there h back here (subst (λ (board : AskBoard). HasAsk board ask) j.board has));
}
  where
    answered : (ask : Ask) → ask.actor ≡ actor → IsIn ask a.asks ⊎ (IsIn ask others.asks × (known b ask ≡ known_of others.view ask)) → (value : Value) × (known b ask ≡ Some value) × IsReply entries ask value
    answered ask own (inl h) =
        let (value, is, reply) = fit.answered ask h own in
        (value, stays_on (Some value) (known a ask) (known b ask) is (j.stays ask), reply)
    answered ask own (inr (h, same)) =
        let (value, is, reply) = theirs.answered ask h own in
        (value, same ∙ is, reply)

    tried : (ask : Ask) (value : Value) → IsTried a ask value → IsTried b ask value
    tried ask value (inl h) = inl (j.kept ask h)
    tried ask value (inr another) = inr (another_stays (known a ask) (known b ask) value (j.stays ask) another)
