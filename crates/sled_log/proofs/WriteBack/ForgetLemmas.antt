-- What is read once segments that recovery did not read were overwritten with zeros, and blobs from a place on were removed.
use Rattle.std.proofs.Common.{◌≡◌, ◌∙◌, ◌≤ℤ◌, ◌<ℤ◌, ◌+◌, ◌<◌, ℕ, ℤ, true, List, [], ◌∷◌, ◌++◌, length, get_or, take, drop, replicate, Option, Some, None, is_some, refl, sym, ap, subst, inl, take-append-drop}
use Rattle.std.proofs.lemmas.List.{take_more}
use lib.Signed.{clash_ℤ}
use Rattle.sled_store.specs.Blobs.{removing_blobs, AreFrom, MayGo}
use Rattle.sled_store.specs.Device.{Event, Trace, NamesState, BlobRemoved, Wrote, Synced, state_of}
use Rattle.sled_store.specs.Script.{Performs, after_all}
use Rattle.sled_store.proofs.Segments.Elements.{no_element}
use Rattle.sled_store.proofs.Traces.ScriptLemmas.{after_joined, performs_behind, performs_more}
use Rattle.sled_log.specs.WritesBack.{zeroing, forgetting, after_zeroing, HasForgotten, Forgets}
use Rattle.sled_log.proofs.SnapshotFile.OtherLemmas.{all_unnamed, missing_from, gone_from, kept_from}

-- Zeros.

-- the calls that overwrite one slot
abbrev pub zeroing_one : ℕ → ℕ → List Event
zeroing_one size slot = Wrote slot (replicate size 0) (replicate size 0) ∷ Synced ∷ []

zeroing_both : (size : ℕ) (xs ys : List ℕ) → zeroing size (xs ++ ys) ≡ zeroing size xs ++ zeroing size ys
zeroing_both size [] ys = refl
zeroing_both size (x ∷ xs) ys = ap (λ (es : List Event). zeroing_one size x ++ es) (zeroing_both size xs ys)

module _ (size : ℕ) (slots : List ℕ) (i d : ℕ) (below : i < length slots) where
  -- those up to a slot are those before it, and it
  more : zeroing size (take (i + 1) slots) ≡ zeroing size (take i slots) ++ zeroing_one size (get_or slots i d)
  more = ap (zeroing size) (take_more slots i d below) ∙ zeroing_both size (take i slots) (get_or slots i d ∷ [])

  -- and all are those and the rest
  all : zeroing size slots ≡ zeroing size (take (i + 1) slots) ++ zeroing size (drop (i + 1) slots)
  all = ap (zeroing size) (sym (take-append-drop (i + 1) slots)) ∙ zeroing_both size (take (i + 1) slots) (drop (i + 1) slots)

  module _ (old mid new : Trace) (came : mid ≡ after_all (zeroing size (take i slots)) old) where
    pub zeroed_more : new ≡ after_all (zeroing_one size (get_or slots i d)) mid → new ≡ after_all (zeroing size (take (i + 1) slots)) old
    zeroed_more one =
        one
        ∙ ap (after_all (zeroing_one size (get_or slots i d))) came
        ∙ sym (after_joined (zeroing size (take i slots)) (zeroing_one size (get_or slots i d)) old)
        ∙ ap (λ (es : List Event). after_all es old) (sym more)

    -- where the calls for one slot failed, the list was begun
    pub zeroing_begun : Performs (zeroing_one size (get_or slots i d)) mid new → Performs (zeroing size slots) old new
    zeroing_begun one =
        let upto : Performs (zeroing size (take (i + 1) slots)) old new =
        subst (λ (es : List Event). Performs es old new) (sym more) (performs_behind (zeroing size (take i slots)) (zeroing_one size (get_or slots i d)) old mid new came one) in
        subst (λ (es : List Event). Performs es old new) (sym all) (performs_more (zeroing size (take (i + 1) slots)) (zeroing size (drop (i + 1) slots)) old new upto)

-- the log file is read as the definition says, and nothing else is touched
pub zeroed_log : (size : ℕ) (slots : List ℕ) (h : Trace) → (state_of (after_all (zeroing size slots) h)).log ≡ after_zeroing size slots (state_of h).log
zeroed_log size [] h = refl
zeroed_log size (slot ∷ slots) h = zeroed_log size slots (Synced ∷ Wrote slot (replicate size 0) (replicate size 0) ∷ h)

pub zeroed_snapshots : (size : ℕ) (slots : List ℕ) (h : Trace) → (state_of (after_all (zeroing size slots) h)).snapshots ≡ (state_of h).snapshots
zeroed_snapshots size [] h = refl
zeroed_snapshots size (slot ∷ slots) h = zeroed_snapshots size slots (Synced ∷ Wrote slot (replicate size 0) (replicate size 0) ∷ h)

pub zeroed_blobs : (size : ℕ) (slots : List ℕ) (h : Trace) → (state_of (after_all (zeroing size slots) h)).blobs ≡ (state_of h).blobs
zeroed_blobs size [] h = refl
zeroed_blobs size (slot ∷ slots) h = zeroed_blobs size slots (Synced ∷ Wrote slot (replicate size 0) (replicate size 0) ∷ h)

-- Blobs.

pub removed_log : (ps : List ℤ) (h : Trace) → (state_of (after_all (removing_blobs ps) h)).log ≡ (state_of h).log
removed_log [] h = refl
removed_log (p ∷ ps) h = removed_log ps (BlobRemoved p true ∷ h)

pub removed_snapshots : (ps : List ℤ) (h : Trace) → (state_of (after_all (removing_blobs ps) h)).snapshots ≡ (state_of h).snapshots
removed_snapshots [] h = refl
removed_snapshots (p ∷ ps) h = removed_snapshots ps (BlobRemoved p true ∷ h)

removed_blobs : (ps : List ℤ) (h : Trace) → (state_of (after_all (removing_blobs ps) h)).blobs ≡ all_unnamed (state_of h).blobs ps
removed_blobs [] h = refl
removed_blobs (p ∷ ps) h = removed_blobs ps (BlobRemoved p true ∷ h)

-- All of them from a place on are removed.
module _ (least : ℤ) (places : List ℤ) (h : Trace) (are : AreFrom (state_of h).blobs.file least places) where
  -- the blob of a place
  abbrev blob_at : Trace → ℤ → Option (List ℕ)
  blob_at t n = (state_of t).blobs.file n

  -- none is left there
  pub none_from : (n : ℤ) → least ≤ℤ n → blob_at (after_all (removing_blobs places) h) n ≡ None
  none_from n above = ap (λ (s : NamesState). s.file n) (removed_blobs places h) ∙ by_file (blob_at h n) refl
    where
      by_file : (o : Option (List ℕ)) → blob_at h n ≡ o → (all_unnamed (state_of h).blobs places).file n ≡ None
      by_file None is = missing_from n places (state_of h).blobs is
      by_file (Some file) is = gone_from n places (state_of h).blobs ((are.each n).1 (ap is_some is, above))

  -- and those below are as they were
  pub same_below : (n : ℤ) → n <ℤ least → blob_at (after_all (removing_blobs places) h) n ≡ blob_at h n
  same_below n below = ap (λ (s : NamesState). s.file n) (removed_blobs places h) ∙ kept_from n places (state_of h).blobs (λ there. clash_ℤ below ((are.each n).0 there).1)

-- The whole: what both leave.
module _ (size : ℕ) (unread : List ℕ) (places : List ℤ) (h : Trace) where
  abbrev zeroed : Trace
  zeroed = after_all (zeroing size unread) h

  pub forgotten : after_all (forgetting size unread places) h ≡ after_all (removing_blobs places) zeroed
  forgotten = after_joined (zeroing size unread) (removing_blobs places) h

  pub forgotten_log : (state_of (after_all (forgetting size unread places) h)).log ≡ after_zeroing size unread (state_of h).log
  forgotten_log = ap (λ (t : Trace). (state_of t).log) forgotten ∙ removed_log places zeroed ∙ zeroed_log size unread h

  pub forgotten_snapshots : (state_of (after_all (forgetting size unread places) h)).snapshots ≡ (state_of h).snapshots
  forgotten_snapshots = ap (λ (t : Trace). (state_of t).snapshots) forgotten ∙ removed_snapshots places zeroed ∙ zeroed_snapshots size unread h

  module _ (least : ℤ) (are : AreFrom (state_of h).blobs.file least places) where
    are_zeroed : AreFrom (state_of zeroed).blobs.file least places
    are_zeroed = subst (λ (s : NamesState). AreFrom s.file least places) (sym (zeroed_blobs size unread h)) are

    pub forgotten_none : (n : ℤ) → least ≤ℤ n → (state_of (after_all (forgetting size unread places) h)).blobs.file n ≡ None
    forgotten_none n above = ap (λ (t : Trace). (state_of t).blobs.file n) forgotten ∙ none_from least places zeroed are_zeroed n above

    pub forgotten_below : (n : ℤ) → n <ℤ least → (state_of (after_all (forgetting size unread places) h)).blobs.file n ≡ (state_of h).blobs.file n
    forgotten_below n below =
        ap (λ (t : Trace). (state_of t).blobs.file n) forgotten ∙ same_below least places zeroed are_zeroed n below
        ∙ ap (λ (s : NamesState). s.file n) (zeroed_blobs size unread h)

-- What the calls made.
module _ (size : ℕ) (unread : List ℕ) (least : ℤ) (old : Trace) where
  pub zeroing_stops : (new : Trace) → Performs (zeroing size unread) old new → Forgets size unread least old new
  zeroing_stops new came = ([], inl refl, performs_more (zeroing size unread) (removing_blobs []) old new came)

  -- all slots were overwritten, and then blobs were removed
  module _ (mid new : Trace) (came : mid ≡ after_all (zeroing size unread) old) where
    same_blobs : (state_of mid).blobs.file ≡ (state_of old).blobs.file
    same_blobs = ap (λ (h : Trace). (state_of h).blobs.file) came ∙ ap (λ (s : NamesState). s.file) (zeroed_blobs size unread old)

    pub has_forgotten : (places : List ℤ) × AreFrom (state_of mid).blobs.file least places × (new ≡ after_all (removing_blobs places) mid) → HasForgotten size unread least old new
    has_forgotten (places, are, is) = (
      places,
      subst (λ (f : ℤ → Option (List ℕ)). AreFrom f least places) same_blobs are,
      is ∙ ap (after_all (removing_blobs places)) came ∙ sym (after_joined (zeroing size unread) (removing_blobs places) old),
    )

    -- as far as that came
    pub forgets : (places : List ℤ) × MayGo (state_of mid).blobs.file least places × Performs (removing_blobs places) mid new → Forgets size unread least old new
    forgets (places, may, calls) = (
      places,
      subst (λ (f : ℤ → Option (List ℕ)). MayGo f least places) same_blobs may,
      performs_behind (zeroing size unread) (removing_blobs places) old mid new came calls,
    )

-- Where there is nothing to be forgotten, no call is made for it.
module _ (size : ℕ) (unread : List ℕ) (none : unread ≡ []) (file : ℤ → Option (List ℕ)) (no_blobs : (n : ℤ) → file n ≡ None) (least : ℤ) where
  none_listed : (places : List ℤ) → AreFrom file least places → places ≡ []
  none_listed places are = no_element places (λ n there. let some = ((are.each n).0 there).0 in let is = no_blobs n in absurd (cc))
