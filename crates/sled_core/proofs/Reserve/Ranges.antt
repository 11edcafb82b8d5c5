-- Reservations that lie one behind another: what stands in them stays where bytes are put behind them, and where another one is completed.
use Rattle.std.proofs.Common.{◌≡◌, ◌≤◌, ◌<◌, ◌+◌, ℕ, zero, suc, List, [], ◌∷◌, ◌++◌, length, take, drop, sym, ◌∙◌, ap, arith, refl, subst, length-append, length-take, length-drop, rules, Some, set, ◌⊎◌, inl, inr}
use Rattle.std.specs.List.{All, Contains, slice_get}
use Rattle.std.proofs.lemmas.List.{drop-append-le, take-append-le, same_lists, places}
use Rattle.std.proofs.lemmas.Option.{slice_get_within}
use Rattle.std.proofs.lemmas.List.Elements.{All-cons, All-tail}
use Rattle.sled_codec.specs.Places.{part}
use Rattle.sled_codec.specs.Written.{written}
use Rattle.sled_codec.specs.History.{Message}
use Rattle.sled_core.specs.declared.iobuf.ReservationState.{ReservationState}
use Rattle.sled_core.specs.declared.iobuf.ReservationState.TheVariants.{Open, Completed, Canceled, Manifest, Padding}
use Rattle.sled_core.specs.declared.iobuf.Reserved.{Reserved}
use Rattle.sled_core.specs.declared.iobuf.SegmentPosition.{SegmentPosition}
use Rattle.sled_store.proofs.Segments.Elements.{in_cases, in_rest}
use Rattle.sled_core.proofs.Reserve.Parts.{get_there}
use Rattle.sled_core.specs.Buffers.{body_in, message_in, item_as}
use Rattle.sled_core.specs.inside.Buffers.{IsChain, completed_in, with_own}

-- a part stays when bytes are put behind the text
pub part-append : (xs ys : List ℕ) (at n : ℕ) → at + n ≤ length xs → part (xs ++ ys) at n ≡ part xs at n
part-append xs ys at n le =
    let short : n ≤ length (drop at xs) = omega (arith, length-drop at xs) in
    ap (take n) (drop-append-le at xs ys (omega arith)) ∙ take-append-le n (drop at xs) ys short

-- a part before what is written over stays
pub part-written_before : (buf xs : List ℕ) (k at n : ℕ) → at + n ≤ k → k + length xs ≤ length buf → part (written buf k xs) at n ≡ part buf at n
part-written_before buf xs k at n before fits =
    same_lists _ _ (search (rules, places)) (λ j d h. grind (arith, places))

-- a part behind what is written over stays
pub part-written_behind : (buf xs : List ℕ) (k at n : ℕ) → k + length xs ≤ at → k + length xs ≤ length buf → part (written buf k xs) at n ≡ part buf at n
part-written_behind buf xs k at n behind fits =
    same_lists _ _ (search (rules, places)) (λ j d h. grind (arith, places))

-- what is written over is the new bytes and then the rest of what was there
pub part-written_at : (buf xs : List ℕ) (k n : ℕ) → length xs ≤ n → k + n ≤ length buf → part (written buf k xs) k n ≡ xs ++ drop (length xs) (part buf k n)
part-written_at buf xs k n within fits =
    same_lists _ _ (search (rules, places)) (λ j d h. grind (arith, places))

-- what is written over again is as if it were written once
pub written-over : (buf xs ys : List ℕ) (j k : ℕ) → k ≤ j → j + length xs ≤ k + length ys → k + length ys ≤ length buf → written (written buf j xs) k ys ≡ written buf k ys
written-over buf xs ys j k begins ends fits =
    same_lists _ _ (search (rules, places)) (λ i d h. grind (arith, places))

-- The message of a reservation that was completed, before those of the others.

own-append : (s : ReservationState) (m : Message) (xs ys : List Message) → with_own s m (xs ++ ys) ≡ with_own s m xs ++ ys
own-append Open m xs ys = refl
own-append Completed m xs ys = refl
own-append Canceled m xs ys = refl
own-append Manifest m xs ys = refl
own-append Padding m xs ys = refl

-- what holds of it, if it was completed, and of the others holds of all
pub all_own : (P : Message → Type 0) (s : ReservationState) (m : Message) (ms : List Message) → (s ≡ Completed → P m) → All P ms → All P (with_own s m ms)
all_own P Open m ms own all = all
all_own P Completed m ms own all = All-cons P m ms (own refl) all
all_own P Canceled m ms own all = all
all_own P Manifest m ms own all = all
all_own P Padding m ms own all = all

-- one of all is it, and then it was completed, or one of the others
pub own_cases : (s : ReservationState) (m : Message) (ms : List Message) (x : Message) → Contains (with_own s m ms) x → ((s ≡ Completed) × (m ≡ x)) ⊎ Contains ms x
own_cases Open m ms x there = inr there
own_cases Completed m ms x there = elim (in_cases m x ms there) [ inl is ↦ inl (refl, is) | inr later ↦ inr later ]
own_cases Canceled m ms x there = inr there
own_cases Manifest m ms x there = inr there
own_cases Padding m ms x there = inr there

-- the others are among all
pub own_rest : (s : ReservationState) (m : Message) (ms : List Message) (x : Message) → Contains ms x → Contains (with_own s m ms) x
own_rest Open m ms x there = there
own_rest Completed m ms x there = in_rest m x ms there
own_rest Canceled m ms x there = there
own_rest Manifest m ms x there = there
own_rest Padding m ms x there = there

-- two of them, if both are the same where it was completed
own_same : (s : ReservationState) (m n : Message) (ms ns : List Message) → (s ≡ Completed → m ≡ n) → ms ≡ ns → with_own s m ms ≡ with_own s n ns
own_same Open m n ms ns own rest = rest
own_same Completed m n ms ns own rest = λ i. own refl i ∷ rest i
own_same Canceled m n ms ns own rest = rest
own_same Manifest m n ms ns own rest = rest
own_same Padding m n ms ns own rest = rest

-- Messages that stand in the same bytes are the same.
pub completed-same : (site : SegmentPosition) (old new : List ℕ) (rs : List Reserved) → All (λ r. r.state ≡ Completed → body_in new r ≡ body_in old r) rs → completed_in site new rs ≡ completed_in site old rs
completed-same site old new [] all = refl
completed-same site old new (r ∷ rs) all =
    let rest : completed_in site new rs ≡ completed_in site old rs = completed-same site old new rs (All-tail (λ x. x.state ≡ Completed → body_in new x ≡ body_in old x) r rs all) in
    own_same r.state (message_in site new r) (message_in site old r) (completed_in site new rs) (completed_in site old rs)
    (λ done. ap (λ (l : List ℕ). record (message_in site old r) { bytes = item_as r.blob l }) (all 0 r (omega arith) done)) rest

pub completed-append : (site : SegmentPosition) (bytes : List ℕ) (xs ys : List Reserved) → completed_in site bytes (xs ++ ys) ≡ completed_in site bytes xs ++ completed_in site bytes ys
completed-append site bytes [] ys = refl
completed-append site bytes (x ∷ xs) ys =
    let rest : completed_in site bytes (xs ++ ys) ≡ completed_in site bytes xs ++ completed_in site bytes ys = completed-append site bytes xs ys in
    ap (with_own x.state (message_in site bytes x)) rest ∙ own-append x.state (message_in site bytes x) (completed_in site bytes xs) (completed_in site bytes ys)

-- one reservation more
pub chain-append : (from end : ℕ) (rs : List Reserved) (r : Reserved) → IsChain from rs end → r.from ≡ end → IsChain from (rs ++ r ∷ []) (end + r.len)
chain-append from end [] r is here = (here ∙ sym is, ap (λ n. n + r.len) is)
chain-append from end (x ∷ xs) r is here = (is.0, chain-append (from + x.len) end xs r is.1 here)

-- a chain in two parts, around one of its reservations
pub chain-split : (from end : ℕ) (xs ys : List Reserved) (r : Reserved) → IsChain from (xs ++ r ∷ ys) end → IsChain from xs r.from × IsChain (r.from + r.len) ys end
chain-split from end [] ys r is = (sym is.0, subst (λ n. IsChain (n + r.len) ys end) (sym is.0) is.1)
chain-split from end (x ∷ xs) ys r is =
    let rest = chain-split (from + x.len) end xs ys r is.1 in
    ((is.0, rest.0), rest.1)

-- and the two parts make a chain again, around one of the same range
pub chain-joined : (from end : ℕ) (xs ys : List Reserved) (r : Reserved) → IsChain from xs r.from → IsChain (r.from + r.len) ys end → IsChain from (xs ++ r ∷ ys) end
chain-joined from end [] ys r before after = (sym before, subst (λ n. IsChain (n + r.len) ys end) (sym before) after)
chain-joined from end (x ∷ xs) ys r before after = (before.0, chain-joined (from + x.len) end xs ys r before.1 after)

-- a chain doesn't go back
pub chain_grows : (from end : ℕ) (rs : List Reserved) → IsChain from rs end → from ≤ end
chain_grows from end [] is = omega arith
chain_grows from end (r ∷ rs) is = let rest = chain_grows (from + r.len) end rs is.1 in omega arith

-- its reservations lie between its ends
pub chain_within : (from end : ℕ) (rs : List Reserved) → IsChain from rs end → All (λ r. (from ≤ r.from) × (r.from + r.len ≤ end)) rs
chain_within from end (r ∷ rs) is zero d lt =
    let rest = chain_grows (from + r.len) end rs is.1 in
    let here : r.from ≡ from = is.0 in
    (omega arith, omega arith)
chain_within from end (r ∷ rs) is (suc k) d lt =
    let rest = chain_within (from + r.len) end rs is.1 k d (omega arith) in
    (omega (arith, rest.0), rest.1)
chain_within from end [] is k d lt = absurd (omega arith)

-- Writing over a text keeps its length.
pub length-written : (buf xs : List ℕ) (k : ℕ) → k + length xs ≤ length buf → length (written buf k xs) ≡ length buf
length-written buf xs k fits = omega (arith, length-append (take k buf ++ xs) (drop (k + length xs) buf), length-append (take k buf) xs, length-take k buf, length-drop (k + length xs) buf)

-- a list around an element that is there
pub there_split : {X : Type 0} (xs : List X) (i : ℕ) (x : X) → slice_get xs i ≡ Some x → xs ≡ take i xs ++ x ∷ drop (suc i) xs
there_split [] zero x there = cc
there_split [] (suc i) x there = cc
there_split (y ∷ ys) zero x there = let same : y ≡ x = cc in ap (λ z. z ∷ ys) same
there_split (y ∷ ys) (suc i) x there = ap (λ zs. y ∷ zs) (there_split ys i x there)

-- The messages of a chain lie between its ends.
pub completed_between : (site : SegmentPosition) (bytes : List ℕ) (from end : ℕ) (rs : List Reserved) → IsChain from rs end → All (λ r. 0 < r.len) rs
    → All (λ m. (site.place + from ≤ m.place) × (m.place < site.place + end) × (m.place + m.size ≤ site.place + end)) (completed_in site bytes rs)
completed_between site bytes from end [] is some = λ k d lt. absurd (omega arith)
completed_between site bytes from end (r ∷ rs) is some =
    let here : r.from ≡ from = is.0 in
    let long : 0 < r.len = some 0 r (omega arith) in
    let grows : from + r.len ≤ end = chain_grows (from + r.len) end rs is.1 in
    let Between : ℕ → Message → Type 0 = λ n m. (site.place + n ≤ m.place) × (m.place < site.place + end) × (m.place + m.size ≤ site.place + end) in
    let rest : All (Between (from + r.len)) (completed_in site bytes rs) = completed_between site bytes (from + r.len) end rs is.1 (All-tail (λ x. 0 < x.len) r rs some) in
    let later : All (Between from) (completed_in site bytes rs) = λ k d lt. let b = rest k d lt in (omega (arith, b.0), b.1, b.2) in
    all_own (Between from) r.state (message_in site bytes r) (completed_in site bytes rs) (λ own. (omega arith, omega arith, omega arith)) later

-- what holds of each holds of those in front, of the one between and of those behind
pub all_split : {X : Type 0} (P : X → Type 0) (xs ys : List X) (x : X) → All P (xs ++ x ∷ ys) → All P xs × P x × All P ys
all_split P [] ys x all = (λ k d lt. absurd (omega arith), all 0 x (omega arith), All-tail P x ys all)
all_split P (z ∷ xs) ys x all =
    let rest = all_split P xs ys x (All-tail P z (xs ++ x ∷ ys) all) in
    (All-cons P z xs (all 0 z (omega arith)) rest.0, rest.1, rest.2)

pub all_joined : {X : Type 0} (P : X → Type 0) (xs ys : List X) (x : X) → All P xs → P x → All P ys → All P (xs ++ x ∷ ys)
all_joined P [] ys x before here after = All-cons P x ys here after
all_joined P (z ∷ xs) ys x before here after = All-cons P z (xs ++ x ∷ ys) (before 0 z (omega arith)) (all_joined P xs ys x (All-tail P z xs before) here after)

-- an element that isn't the one that is set stays
pub there-set_other : {X : Type 0} (xs : List X) (i j : ℕ) (x y z : X) → slice_get xs i ≡ Some x → slice_get xs j ≡ Some y → (x ≡ y → ⊥) → slice_get (set xs i z) j ≡ Some y
there-set_other [] i j x y z at_i at_j apart = at_j
there-set_other (w ∷ ws) zero zero x y z at_i at_j apart = let same : x ≡ y = cc in absurd (apart same)
there-set_other (w ∷ ws) zero (suc j) x y z at_i at_j apart = at_j
there-set_other (w ∷ ws) (suc i) zero x y z at_i at_j apart = at_j
there-set_other (w ∷ ws) (suc i) (suc j) x y z at_i at_j apart = there-set_other ws i j x y z at_i at_j apart

-- what holds of each holds of one that is there
pub at_there : {X : Type 0} (P : X → Type 0) (xs : List X) (i : ℕ) (x : X) → slice_get xs i ≡ Some x → All P xs → P x
at_there P xs i x there all = subst P (get_there xs i x x there) (all i x (slice_get_within xs i x there))

-- Of two reservations that begin at different offsets, one lies before the other.
pub chain_apart : (from end : ℕ) (rs : List Reserved) (i j : ℕ) (r x : Reserved) → IsChain from rs end → slice_get rs i ≡ Some r → slice_get rs j ≡ Some x
    → (x.from ≡ r.from → ⊥) → (x.from + x.len ≤ r.from) ⊎ (r.from + r.len ≤ x.from)
chain_apart from end [] i j r x chain at_i at_j apart = cc
chain_apart from end (y ∷ ys) zero zero r x chain at_i at_j apart = let same : x.from ≡ r.from = let both : x ≡ r = cc in ap (λ (z : Reserved). z.from) both in absurd (apart same)
chain_apart from end (y ∷ ys) zero (suc j) r x chain at_i at_j apart =
    let is : y ≡ r = cc in
    let begins : y.from ≡ from = chain.0 in
    let later = at_there (λ z. (from + y.len ≤ z.from) × (z.from + z.len ≤ end)) ys j x at_j (chain_within (from + y.len) end ys chain.1) in
    let le : y.from + y.len ≤ x.from = omega (arith, later.0) in
    inr (subst (λ (z : Reserved). z.from + z.len ≤ x.from) is le)
chain_apart from end (y ∷ ys) (suc i) zero r x chain at_i at_j apart =
    let is : y ≡ x = cc in
    let begins : y.from ≡ from = chain.0 in
    let later = at_there (λ z. (from + y.len ≤ z.from) × (z.from + z.len ≤ end)) ys i r at_i (chain_within (from + y.len) end ys chain.1) in
    let le : y.from + y.len ≤ r.from = omega (arith, later.0) in
    inl (subst (λ (z : Reserved). z.from + z.len ≤ r.from) is le)
chain_apart from end (y ∷ ys) (suc i) (suc j) r x chain at_i at_j apart = chain_apart (from + y.len) end ys i j r x chain.1 at_i at_j apart
