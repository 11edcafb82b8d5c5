-- A settled name has the same file after each crash, and what a crash leaves of a name before a change, or of a torn one, it may leave after the whole.
use Rattle.std.proofs.Common.{◌≡◌, ◌⊎◌, ◌&&◌, ℤ, ℕ, Bool, true, false, not, is_some, if◌then◌else◌, List, [], ◌∷◌, Option, Some, None, refl, ap, subst, inl, inr}
use Rattle.std.specs.Ordering.{int_eq}
use Rattle.sled_store.specs.Device.{NameState, NamesState, LeavesFile, LeavesOneOf, LeavesName, renamed, unnamed, names_synced, names_at_rest, file_synced}
use Rattle.sled_store.specs.inside.Durable.{IsSettledName}

firm_left : (file left : Option (List ℕ)) → LeavesFile file false left → left ≡ file
firm_left None left is = is
firm_left (Some bytes) left is = is

-- what every crash leaves of it
pub settled_name_left : (s : NamesState) (n : ℤ) (left : Option (List ℕ)) → IsSettledName s n → LeavesName s n left → left ≡ s.file n
settled_name_left s n left settled (inl now) = firm_left (s.file n) left (subst (λ (b : Bool). LeavesFile (s.file n) b left) settled.firm now)
settled_name_left s n left settled (inr (inl earlier)) = absurd (subst (λ (h : List NameState). LeavesOneOf h left) settled.alone earlier)
settled_name_left s n left settled (inr (inr half)) = absurd (subst (λ (h : List NameState). LeavesOneOf h left) settled.whole half)

-- After a crash all names are settled.
pub settled_name_at_rest : (file : ℤ → Option (List ℕ)) (n : ℤ) → IsSettledName (names_at_rest file) n
settled_name_at_rest file n = record { firm = refl; alone = refl; whole = refl }

-- A sync of names settles each file whose bytes are.
pub settled_name_synced : (s : NamesState) (n : ℤ) → s.is_unsynced n ≡ false → IsSettledName (names_synced s) n
settled_name_synced s n firm = record { firm = firm; alone = refl; whole = refl }

-- the bytes of a file are settled by its own sync
pub firm_file_synced : (s : NamesState) (n : ℤ) → int_eq n n ≡ true → (file_synced s n).is_unsynced n ≡ false
firm_file_synced s n same = ap (λ (b : Bool). not b && s.is_unsynced n) same

-- it leaves the file, too
pub file_renamed : (s : NamesState) (name : ℤ) (done : Bool) (top : NameState) (asked : List (List ℕ)) (n : ℤ) → int_eq name n ≡ false → (renamed s name done top asked).file n ≡ s.file n
file_renamed s name true top asked n other = ap (λ (b : Bool). if b then top.file else s.file n) other
file_renamed s name false top asked n other = refl

-- What a crash leaves of a name after a change of it: where the change was done or not (`done`), and where it is this name or not (`here`).
abbrev AfterChange : NamesState → NameState → ℤ → Option (List ℕ) → Bool → Bool → Type 0
AfterChange s top n left done here =
    LeavesFile (if done && here then top.file else s.file n) (if done && here then top.is_unsynced else s.is_unsynced n) left
    ⊎ LeavesOneOf (if done && here then record { file = s.file n; is_unsynced = s.is_unsynced n } ∷ s.earlier n else s.earlier n) left
    ⊎ LeavesOneOf (if not done && here then top ∷ s.half_done n else s.half_done n) left

before_change : (s : NamesState) (top : NameState) (n : ℤ) (left : Option (List ℕ)) (done here : Bool) → LeavesName s n left → AfterChange s top n left done here
before_change s top n left true true (inl now) = inr (inl (inl now))
before_change s top n left true true (inr (inl earlier)) = inr (inl (inr earlier))
before_change s top n left true true (inr (inr half)) = inr (inr half)
before_change s top n left false true (inl now) = inl now
before_change s top n left false true (inr (inl earlier)) = inr (inl earlier)
before_change s top n left false true (inr (inr half)) = inr (inr (inr half))
before_change s top n left true false was = was
before_change s top n left false false was = was

-- before a change
pub before_renamed : (s : NamesState) (name : ℤ) (done : Bool) (top : NameState) (asked : List (List ℕ)) (n : ℤ) (left : Option (List ℕ)) → LeavesName s n left → LeavesName (renamed s name done top asked) n left
before_renamed s name done top asked n left was = before_change s top n left done (int_eq name n) was

after_change : (s : NamesState) (top : NameState) (n : ℤ) (left : Option (List ℕ)) (done here : Bool) → AfterChange s top n left done here → LeavesName s n left ⊎ ((here ≡ true) × LeavesFile top.file top.is_unsynced left)
after_change s top n left true true (inl now) = inr (refl, now)
after_change s top n left true true (inr (inl (inl was))) = inl (inl was)
after_change s top n left true true (inr (inl (inr earlier))) = inl (inr (inl earlier))
after_change s top n left true true (inr (inr half)) = inl (inr (inr half))
after_change s top n left false true (inl now) = inl (inl now)
after_change s top n left false true (inr (inl earlier)) = inl (inr (inl earlier))
after_change s top n left false true (inr (inr (inl new))) = inr (refl, new)
after_change s top n left false true (inr (inr (inr half))) = inl (inr (inr half))
after_change s top n left true false was = inl was
after_change s top n left false false was = inl was

-- What a crash leaves of a name after a change it left before, or it is the new file of the name that changed.
pub after_renamed : (s : NamesState) (name : ℤ) (done : Bool) (top : NameState) (asked : List (List ℕ)) (n : ℤ) (left : Option (List ℕ)) → LeavesName (renamed s name done top asked) n left
    → LeavesName s n left ⊎ ((int_eq name n ≡ true) × LeavesFile top.file top.is_unsynced left)
after_renamed s name done top asked n left is = after_change s top n left done (int_eq name n) is

torn_change : (s : NamesState) (torn top : NameState) (n : ℤ) (left : Option (List ℕ)) (done here : Bool) → (LeavesFile torn.file torn.is_unsynced left → LeavesFile top.file top.is_unsynced left)
    → AfterChange s torn n left done here → AfterChange s top n left true here
torn_change s torn top n left true true may (inl now) = inl (may now)
torn_change s torn top n left true true may (inr rest) = inr rest
torn_change s torn top n left false true may (inl now) = inr (inl (inl now))
torn_change s torn top n left false true may (inr (inl earlier)) = inr (inl (inr earlier))
torn_change s torn top n left false true may (inr (inr (inl new))) = inl (may new)
torn_change s torn top n left false true may (inr (inr (inr half))) = inr (inr half)
torn_change s torn top n left true false may was = was
torn_change s torn top n left false false may was = was

-- A change that was torn: done with other bytes, or not done.
pub torn_renamed : (s : NamesState) (name : ℤ) (done : Bool) (torn top : NameState) (asked : List (List ℕ)) (n : ℤ) (left : Option (List ℕ)) → (LeavesFile torn.file torn.is_unsynced left → LeavesFile top.file top.is_unsynced left)
    → LeavesName (renamed s name done torn asked) n left → LeavesName (renamed s name true top asked) n left
torn_renamed s name done torn top asked n left may was = torn_change s torn top n left done (int_eq name n) may was

-- a removal, of a name that is there or is missing
pub before_unnamed : (s : NamesState) (name : ℤ) (done : Bool) (n : ℤ) (left : Option (List ℕ)) → LeavesName s n left → LeavesName (unnamed s name done) n left
before_unnamed s name done n left was = by (is_some (s.file name))
  where
    by : (b : Bool) → LeavesName (if b then renamed s name done (record { file = None; is_unsynced = false }) [] else s) n left
    by true = before_renamed s name done (record { file = None; is_unsynced = false }) [] n left was
    by false = was

pub torn_unnamed : (s : NamesState) (name : ℤ) (done : Bool) (n : ℤ) (left : Option (List ℕ)) → LeavesName (unnamed s name done) n left → LeavesName (unnamed s name true) n left
torn_unnamed s name done n left was = by (is_some (s.file name)) was
  where
    by : (b : Bool) → LeavesName (if b then renamed s name done (record { file = None; is_unsynced = false }) [] else s) n left → LeavesName (if b then renamed s name true (record { file = None; is_unsynced = false }) [] else s) n left
    by true was = torn_renamed s name done (record { file = None; is_unsynced = false }) (record { file = None; is_unsynced = false }) [] n left (λ is. is) was
    by false was = was

pub after_unnamed : (s : NamesState) (name : ℤ) (done : Bool) (n : ℤ) (left : Option (List ℕ)) → LeavesName (unnamed s name done) n left → LeavesName s n left ⊎ ((int_eq name n ≡ true) × (left ≡ None))
after_unnamed s name done n left is = by (is_some (s.file name)) is
  where
    by : (b : Bool) → LeavesName (if b then renamed s name done (record { file = None; is_unsynced = false }) [] else s) n left → LeavesName s n left ⊎ ((int_eq name n ≡ true) × (left ≡ None))
    by true is = after_renamed s name done (record { file = None; is_unsynced = false }) [] n left is
    by false is = inl is
