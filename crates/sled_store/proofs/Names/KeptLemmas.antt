-- What a change of the last file under a name makes of the states of the name.
use Rattle.std.proofs.Common.{◌≡◌, ◌<◌, ◌≤◌, ◌+◌, ℕ, suc, Bool, true, false, if◌then◌else◌, List, [], ◌∷◌, ◌++◌, length, take, get_or, set, Option, Some, None, refl, sym, ◌∙◌, ap, arith, is_some}
use Rattle.std.proofs.lemmas.List.{take_more, take_all, drop_all, set_split}
use Rattle.sled_store.specs.declared.device.memory.named_files.version.FileVersion.{FileVersion}
use Rattle.sled_store.specs.Device.{NameState, settled_file}
use Rattle.sled_store.specs.inside.MemoryNames.{absent, state_kept, upon, history, states_of, latest, without_file, firm, firm_file, file_settled}

-- one more file
history-push : (was : List NameState) (xs : List FileVersion) (e : FileVersion) → history was (xs ++ e ∷ []) ≡ upon (history was xs) e
history-push was [] e = refl
history-push was (x ∷ xs) e = history-push (upon was x) xs e

pub states-push : (xs : List FileVersion) (e : FileVersion) → states_of (xs ++ e ∷ []) ≡ upon (states_of xs) e
states-push xs e = history-push (absent ∷ []) xs e

pub states-take : (xs : List FileVersion) (i : ℕ) (e : FileVersion) → i < length xs → e ≡ get_or xs i e → states_of (take (i + 1) xs) ≡ upon (states_of (take i xs)) e
states-take xs i e there read = ap states_of (take_more xs i e there ∙ ap (λ (x : FileVersion). take i xs ++ x ∷ []) (sym read)) ∙ states-push (take i xs) e

-- the last file is on top of the states, and what takes its place is
pub states-last : (xs : List FileVersion) (k : ℕ) (e : FileVersion) → k + 1 ≡ length xs → e ≡ get_or xs k e → states_of xs ≡ upon (states_of (take k xs)) e
states-last xs k e last read =
    let there : k < length xs = omega arith in
    let all : length xs ≤ k + 1 = omega arith in
    sym (ap states_of (take_all (k + 1) xs all)) ∙ states-take xs k e there read

pub states-set_last : (xs : List FileVersion) (k : ℕ) (y : FileVersion) → k + 1 ≡ length xs → states_of (set xs k y) ≡ upon (states_of (take k xs)) y
states-set_last xs k y last =
    let there : k < length xs = omega arith in
    let all : length xs ≤ suc k = omega arith in
    ap states_of (set_split xs k y there ∙ ap (λ (ys : List FileVersion). take k xs ++ y ∷ ys) (drop_all (suc k) xs all)) ∙ states-push (take k xs) y

-- The last file is removed.
removed_upon : (was : List NameState) (e : FileVersion) → upon was (record e { is_gone = true }) ≡ without_file (upon was e)
removed_upon was e = by e.is_gone
  where
    by : (b : Bool) → absent ∷ state_kept e ∷ (if e.is_settled then [] else was) ≡ without_file (if b then absent ∷ state_kept e ∷ (if e.is_settled then [] else was) else state_kept e ∷ (if e.is_settled then [] else was))
    by true = refl
    by false = refl

pub states_removed : (xs : List FileVersion) (k : ℕ) (e : FileVersion) → k + 1 ≡ length xs → e ≡ get_or xs k e → states_of (set xs k (record e { is_gone = true })) ≡ without_file (states_of xs)
states_removed xs k e last read =
    states-set_last xs k (record e { is_gone = true }) last ∙ removed_upon (states_of (take k xs)) e ∙ ap without_file (sym (states-last xs k e last read))

-- Its bytes are settled.
firm_upon : (was : List NameState) (e : FileVersion) → is_some (latest (upon was e)).file ≡ true → upon was (record e { is_unsynced = false }) ≡ firm_file (upon was e)
firm_upon was e some = by e.is_gone some
  where
    by : (b : Bool) → is_some (latest (if b then absent ∷ state_kept e ∷ (if e.is_settled then [] else was) else state_kept e ∷ (if e.is_settled then [] else was))).file ≡ true
        → (if b then absent ∷ firm (Some e.bytes.items) ∷ (if e.is_settled then [] else was) else firm (Some e.bytes.items) ∷ (if e.is_settled then [] else was))
        ≡ firm_file (if b then absent ∷ state_kept e ∷ (if e.is_settled then [] else was) else state_kept e ∷ (if e.is_settled then [] else was))
    by true some = absurd (cc)
    by false some = refl

pub states_firmed : (xs : List FileVersion) (k : ℕ) (e : FileVersion) → k + 1 ≡ length xs → e ≡ get_or xs k e → is_some (latest (states_of xs)).file ≡ true → states_of (set xs k (record e { is_unsynced = false })) ≡ firm_file (states_of xs)
states_firmed xs k e last read some =
    let top = states-last xs k e last read in
    states-set_last xs k (record e { is_unsynced = false }) last
    ∙ firm_upon (states_of (take k xs)) e (sym (ap (λ (h : List NameState). is_some (latest h).file) top) ∙ some)
    ∙ ap firm_file (sym top)

-- The latest state of a name is its last file, where that isn't gone.
latest_upon : (was : List NameState) (e : FileVersion) (b : Bool) → e.is_gone ≡ b → latest (upon was e) ≡ (if b then absent else state_kept e)
latest_upon was e b is = ap (λ (g : Bool). latest (if g then absent ∷ state_kept e ∷ (if e.is_settled then [] else was) else state_kept e ∷ (if e.is_settled then [] else was))) is ∙ at b
  where
    at : (b : Bool) → latest (if b then absent ∷ state_kept e ∷ (if e.is_settled then [] else was) else state_kept e ∷ (if e.is_settled then [] else was)) ≡ (if b then absent else state_kept e)
    at true = refl
    at false = refl

pub latest-last : (xs : List FileVersion) (k : ℕ) (e : FileVersion) (b : Bool) → k + 1 ≡ length xs → e ≡ get_or xs k e → e.is_gone ≡ b → latest (states_of xs) ≡ (if b then absent else state_kept e)
latest-last xs k e b last read is = ap latest (states-last xs k e last read) ∙ latest_upon (states_of (take k xs)) e b is

pub latest-popped : (xs front : List FileVersion) (e : FileVersion) (b : Bool) → xs ≡ front ++ e ∷ [] → e.is_gone ≡ b → latest (states_of xs) ≡ (if b then absent else state_kept e)
latest-popped xs front e b popped is = ap (λ (ys : List FileVersion). latest (states_of ys)) popped ∙ ap latest (states-push front e) ∙ latest_upon (states_of front) e b is

-- The file that stood there when names were last settled: the last one that was settled.
pub settled_on : (file : Option (List ℕ)) (unsynced : Bool) (s : NameState) (earlier : List NameState) → settled_file file unsynced (s ∷ earlier) ≡ settled_file s.file s.is_unsynced earlier
settled_on None unsynced s earlier = refl
settled_on (Some bytes) true s earlier = refl
settled_on (Some bytes) false s earlier = refl

settled_alone : (bytes : List ℕ) (unsynced : Bool) → settled_file (Some bytes) unsynced [] ≡ Some (if unsynced then [] else bytes)
settled_alone bytes true = refl
settled_alone bytes false = refl

-- a file that was settled
settled_upon : (was : List NameState) (e : FileVersion) → e.is_settled ≡ true → file_settled (upon was e) ≡ Some (if e.is_unsynced then [] else e.bytes.items)
settled_upon was e settled =
    ap (λ (b : Bool). file_settled (if e.is_gone then absent ∷ state_kept e ∷ (if b then [] else was) else state_kept e ∷ (if b then [] else was))) settled ∙ by e.is_gone ∙ settled_alone e.bytes.items e.is_unsynced
  where
    by : (b : Bool) → file_settled (if b then absent ∷ state_kept e ∷ [] else state_kept e ∷ []) ≡ settled_file (Some e.bytes.items) e.is_unsynced []
    by true = refl
    by false = refl

-- a name always has a state
has_state : List NameState → Bool
has_state [] = false
has_state (s ∷ earlier) = true

history-some : (was : List NameState) (xs : List FileVersion) → has_state was ≡ true → has_state (history was xs) ≡ true
unfolding has_state
history-some was [] some = some
history-some was (x ∷ xs) some = history-some (upon was x) xs (by x.is_gone)
  where
    by : (b : Bool) → has_state (if b then absent ∷ state_kept x ∷ (if x.is_settled then [] else was) else state_kept x ∷ (if x.is_settled then [] else was)) ≡ true
    by true = refl
    by false = refl

base_some : has_state (absent ∷ []) ≡ true
unfolding has_state
base_some = refl

-- one that wasn't is lost
lost_upon : (was : List NameState) (e : FileVersion) → has_state was ≡ true → e.is_settled ≡ false → file_settled (upon was e) ≡ file_settled was
unfolding has_state
lost_upon [] e some unsettled = absurd (cc)
lost_upon (a ∷ below) e some unsettled =
    ap (λ (b : Bool). file_settled (if e.is_gone then absent ∷ state_kept e ∷ (if b then [] else a ∷ below) else state_kept e ∷ (if b then [] else a ∷ below))) unsettled ∙ by e.is_gone
  where
    by : (b : Bool) → file_settled (if b then absent ∷ state_kept e ∷ a ∷ below else state_kept e ∷ a ∷ below) ≡ settled_file a.file a.is_unsynced below
    by true = settled_on (Some e.bytes.items) e.is_unsynced a below
    by false = settled_on (Some e.bytes.items) e.is_unsynced a below

pub popped_settled : (xs front : List FileVersion) (e : FileVersion) → xs ≡ front ++ e ∷ [] → e.is_settled ≡ true → file_settled (states_of xs) ≡ Some (if e.is_unsynced then [] else e.bytes.items)
popped_settled xs front e popped settled = ap (λ (ys : List FileVersion). file_settled (states_of ys)) popped ∙ ap file_settled (states-push front e) ∙ settled_upon (states_of front) e settled

pub popped_lost : (xs front : List FileVersion) (e : FileVersion) → xs ≡ front ++ e ∷ [] → e.is_settled ≡ false → file_settled (states_of xs) ≡ file_settled (states_of front)
popped_lost xs front e popped unsettled =
    ap (λ (ys : List FileVersion). file_settled (states_of ys)) popped ∙ ap file_settled (states-push front e)
    ∙ lost_upon (states_of front) e (history-some (absent ∷ []) front base_some) unsettled

-- A file that is there again, settled with its bytes, is all that its name has.
pub states-restored : (e : FileVersion) → e.is_unsynced ≡ false → e.is_gone ≡ false → e.is_settled ≡ true → states_of (e ∷ []) ≡ firm (Some e.bytes.items) ∷ []
states-restored e firmed there settled =
    ap (λ (b : Bool). if b then absent ∷ state_kept e ∷ (if e.is_settled then [] else absent ∷ []) else state_kept e ∷ (if e.is_settled then [] else absent ∷ [])) there
    ∙ ap (λ (b : Bool). state_kept e ∷ (if b then [] else absent ∷ [])) settled
    ∙ ap (λ (b : Bool). with_loose b ∷ []) firmed
  where
    with_loose : Bool → NameState
    with_loose b = record { file = Some e.bytes.items; is_unsynced = b }
