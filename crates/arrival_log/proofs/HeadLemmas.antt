-- A first line and an arrival's line from the pieces that they are written in.
use Rattle.std.proofs.Common.{◌≡◌, ◌∙◌, List, ℕ, [], ◌∷◌, ◌++◌, ℕ, Bool, true, false, length, take, drop, append-nil, append_assoc, ap, sym}
use Rattle.std.proofs.Math.Seq.{take-append_seam}
use Rattle.std.proofs.lemmas.List.{take-append-drop}
use Rattle.std.specs.Prelude.{codes, ◌==◌, if◌then◌else◌}
use Rattle.std.specs.Fmt.{decimal}
use Rattle.join_base.specs.declared.message.Source.{Source}
use Rattle.join_base.specs.declared.message.Source.TheVariants.{Feed, Actor}
use Rattle.script_types.specs.declared.plan.Plan.{Plan}
use Rattle.script_types.specs.Names.{name_of_actor}
use Rattle.fair_semantics.specs.declared.run.Entry.{Entry}
use Rattle.arrival_log.specs.Commas.{arrival_front, source_between, stamp_behind}
use Rattle.arrival_log.specs.LogText.{arrival_line, line, message_text, source_text}

pub head_written : (before version arrivals partials feeds zeroth first second third now : List ℕ) → zeroth ≡ before ++ (codes "joinlog " ++ version) → first ≡ zeroth ++ (codes " arrivals " ++ arrivals) → second ≡ first ++ (codes " partials " ++ partials) → third ≡ second ++ (codes " feeds " ++ feeds) → now ≡ third ++ 10 ∷ []
    → now ≡ before ++ line (codes "joinlog" ∷ version ∷ codes "arrivals" ∷ arrivals ∷ codes "partials" ∷ partials ∷ codes "feeds" ∷ feeds ∷ [])
head_written before version arrivals partials feeds zeroth first second third now zeroth_is first_is second_is third_is now_is =
    let to_first = first_is ∙ ap (λ (text : List ℕ). text ++ (codes " arrivals " ++ arrivals)) zeroth_is in
    let to_second = second_is ∙ ap (λ (text : List ℕ). text ++ (codes " partials " ++ partials)) to_first in
    let to_third = third_is ∙ ap (λ (text : List ℕ). text ++ (codes " feeds " ++ feeds)) to_second in
    now_is ∙ ap (λ (text : List ℕ). text ++ 10 ∷ []) to_third ∙ simp append_assoc

-- the parts of an arrival's line, with its stamp or without
stamped_line : (stamped : Bool) (number stamp source message : List ℕ) → line (number ∷ ((if stamped then [] else codes "at" ∷ stamp ∷ []) ++ codes "from" ∷ source ∷ message ∷ []))
    ≡ number ++ ((if stamped then [] else codes " at " ++ stamp) ++ (codes " from " ++ (source ++ (codes " " ++ (message ++ 10 ∷ [])))))
stamped_line true number stamp source message = simp append_assoc
stamped_line false number stamp source message = simp append_assoc

-- the source of an arrival with the words around it
between : (plan : Plan) (source : Source) (rest : List ℕ) → codes " from " ++ (source_text plan source ++ (codes " " ++ rest)) ≡ source_between plan source ++ rest
between plan (Feed k) rest = ap (λ (text : List ℕ). codes " from feed " ++ text) (sym (append_assoc (decimal k) (codes " ") rest))
between plan (Actor actor) rest = ap (λ (text : List ℕ). codes " from actor " ++ text) (sym (append_assoc (name_of_actor plan actor) (codes " ") rest))

pub arrival_whole : (plan : Plan) (version : ℕ) (entry : Entry) → arrival_line plan version entry ≡ arrival_front plan version entry ++ (message_text plan entry.message ++ 10 ∷ [])
arrival_whole plan version entry =
    let number : List ℕ = decimal entry.number in
    let stamp : List ℕ = stamp_behind version entry.stamp in
    let source : List ℕ = source_between plan entry.source in
    let message : List ℕ = message_text plan entry.message ++ 10 ∷ [] in
    stamped_line (version == 1) number (decimal entry.stamp) (source_text plan entry.source) (message_text plan entry.message)
    ∙ ap (λ (text : List ℕ). number ++ (stamp ++ text)) (between plan entry.source message)
    ∙ sym (append_assoc number (stamp ++ source) message ∙ ap (λ (text : List ℕ). number ++ text) (append_assoc stamp source message))

-- an arrival's line in two pieces
pub arrival_parts : (plan : Plan) (version : ℕ) (entry : Entry) (text pushed now rest : List ℕ) → rest ≡ [] → pushed ≡ text ++ (arrival_front plan version entry ++ rest) → now ≡ pushed ++ (message_text plan entry.message ++ 10 ∷ []) → now ≡ text ++ arrival_line plan version entry
arrival_parts plan version entry text pushed now rest nothing pushed_is now_is =
    let front : List ℕ = arrival_front plan version entry in
    let message : List ℕ = message_text plan entry.message ++ 10 ∷ [] in
    now_is
    ∙ ap (λ (piece : List ℕ). piece ++ message) (pushed_is ∙ ap (λ (piece : List ℕ). text ++ (front ++ piece)) nothing ∙ ap (λ (piece : List ℕ). text ++ piece) (append-nil front))
    ∙ append_assoc text front message
    ∙ ap (λ (piece : List ℕ). text ++ piece) (sym (arrival_whole plan version entry))

-- lines out of the pieces that are put into a room, before what stands there
pub arrival_before : (plan : Plan) (version : ℕ) (entry : Entry) (rest : List ℕ) → arrival_front plan version entry ++ (message_text plan entry.message ++ 10 ∷ rest) ≡ arrival_line plan version entry ++ rest
arrival_before plan version entry rest =
    let front : List ℕ = arrival_front plan version entry in
    let message : List ℕ = message_text plan entry.message in
    sym (ap (λ (text : List ℕ). text ++ rest) (arrival_whole plan version entry) ∙ append_assoc front (message ++ 10 ∷ []) rest ∙ ap (λ (text : List ℕ). front ++ text) (append_assoc message (10 ∷ []) rest))

pub message_before : (name values rest : List ℕ) → name ++ 40 ∷ (values ++ 41 ∷ 10 ∷ rest) ≡ (name ++ (40 ∷ (values ++ 41 ∷ []))) ++ 10 ∷ rest
message_before name values rest = simp append_assoc

pub fire_before : (rule taken rest : List ℕ) → codes "fire rule " ++ (rule ++ (codes " take " ++ (taken ++ 10 ∷ rest))) ≡ line (codes "fire rule" ∷ rule ∷ codes "take" ∷ taken ∷ []) ++ rest
fire_before rule taken rest = simp append_assoc

pub print_before : (printed rest : List ℕ) → codes "print " ++ (printed ++ 10 ∷ rest) ≡ line (codes "print" ∷ printed ∷ []) ++ rest
print_before printed rest = simp append_assoc

pub post_before : (target message rest : List ℕ) → codes "post " ++ (target ++ 32 ∷ (message ++ 10 ∷ rest)) ≡ line (codes "post" ∷ target ∷ message ∷ []) ++ rest
post_before target message rest = simp append_assoc

pub reply_before : (number value rest : List ℕ) → codes "reply " ++ (number ++ (32 ∷ (value ++ 10 ∷ rest))) ≡ line (codes "reply" ∷ number ∷ value ∷ []) ++ rest
reply_before number value rest = simp append_assoc

-- a line that was put at the end of the room is appended
pub line_pushed : (text line now put rest : List ℕ) → rest ≡ [] → put ≡ line ++ rest → now ≡ text ++ put → now ≡ text ++ line
line_pushed text line now put rest nothing put_is now_is = now_is ∙ ap (λ (piece : List ℕ). text ++ piece) (put_is ∙ ap (λ (piece : List ℕ). line ++ piece) nothing ∙ append-nil line)

-- what begins with a text and a piece begins with the text
pub kept_behind : (start piece now : List ℕ) → take (length (start ++ piece)) now ≡ start ++ piece → take (length start) now ≡ start
kept_behind start piece now kept =
    let rest : List ℕ = drop (length (start ++ piece)) now in
    ap (take (length start)) (sym (take-append-drop (length (start ++ piece)) now) ∙ ap (λ (front : List ℕ). front ++ rest) kept ∙ append_assoc start piece rest)
    ∙ take-append_seam start (piece ++ rest)
