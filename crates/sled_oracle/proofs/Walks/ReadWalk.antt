-- A walk along the records of a segment tries each record once that a reader reads.
use Rattle.std.proofs.Common.{◌≡◌, ◌≤◌, ◌+◌, ◌∙◌, ℕ, suc, List, get_or, Option, Some, None, Result, Ok, Err, sym, ap, subst, arith, inl, inr}
use Rattle.std.specs.Result.{IfOk}
use Rattle.std.proofs.lemmas.Bool.{cases_lt}
use Rattle.sled_codec.specs.Kinds.{kind_of}
use Rattle.sled_codec.specs.Places.{part}
use Rattle.sled_store.specs.Device.{LogState, Placement}
use Rattle.sled_store.specs.Readers.{ReadsTo, Reads, at_start, reads_past, BeginsAt}
use Rattle.sled_oracle.specs.OwnParts.{FindsRead, FindsRecord, IsCap, IsOwnRecord, AreOwnFrom}
use Rattle.sled_store.proofs.Own.NoRecord.{kind_is}
use Rattle.sled_store.proofs.Own.ReachedLemmas.{same_len, same_record}
use Rattle.sled_store.proofs.Own.ReaderLemmas.{no_lower, read_begins, reads_between, starts}

-- A record that begins where one has room is read there.
pub found_read : {E : Type 0} (sum : List ℕ → ℕ) (size number : ℕ) (text : List ℕ) (at : ℕ) → at + 32 ≤ size → (r : Result (Option ℕ) E) → IfOk r (FindsRecord sum number text at) → IfOk r (FindsRead sum size number text at)
found_read sum size number text at room (Ok None) found = λ len fits b. found len b
found_read sum size number text at room (Ok (Some len)) found = (found, room)
found_read sum size number text at room (Err e) found = found

module _ (sum : List ℕ → ℕ) (size number : ℕ) (text : List ℕ) where
  -- A reader that came to a record that is no Cap reads on behind it.
  pub reads_behind : (first at len : ℕ) → ReadsTo sum size number text first at → at + 32 ≤ size → BeginsAt sum number text at len → (IsCap (part text at len) → ⊥) → ReadsTo sum size number text first (at + len)
  reads_behind first at len came room b plain =
      reads_past at len b.kind b.page b.body came room (λ cap. plain (sym (kind_is sum (part text at len) b.kind b.page number b.body b.is) ∙ cap)) b.inside b.is

  module _ (past : LogState) (placed : List Placement) (start : ℕ) where
    -- What is read at an offset is the record that begins there.
    own_at : (from at len len' : ℕ) → BeginsAt sum number text at len → IsOwnRecord sum size past placed number (start + at) (part text at len) → Reads sum size number text from at len' → IsOwnRecord sum size past placed number (start + at) (part text at len')
    own_at from at len len' b own r = subst (λ (l : List ℕ). IsOwnRecord sum size past placed number (start + at) l) (same_record sum size number text at len len' b.kind b.page b.body r.kind r.page r.body b.is r.is) own

    -- Where none is read, each one from there on is the log's own.
    pub own_nowhere : (at : ℕ) → ((len : ℕ) → at + 32 ≤ size → BeginsAt sum number text at len → ⊥) → AreOwnFrom sum size past placed number start text at
    own_nowhere at none there len r = elim (cases_lt at there) [
      | inl less ↦ absurd (let s = starts sum size number text at there r.comes less in none s.len s.reads.room (read_begins sum size number text at at s.len s.reads))
      | inr last ↦ absurd (
          let le = no_lower sum size number text at there r.comes in
          let same : there ≡ at = omega (arith, le, last) in
          let room = r.room in
          none len (omega (arith, room, same)) (subst (λ n. BeginsAt sum number text n len) same (read_begins sum size number text at there len r)))
    ]

    -- Where one is that is the log's own, and so is each one behind it, or it is a Cap, each one from there on is.
    pub own_further : (at len : ℕ) → BeginsAt sum number text at len → at + 32 ≤ size → IsOwnRecord sum size past placed number (start + at) (part text at len) → (IsCap (part text at len) → ⊥)
        → AreOwnFrom sum size past placed number start text (at + len) → AreOwnFrom sum size past placed number start text at
    own_further at len b room own plain rest there len' r = elim (cases_lt at there) [
      | inl less ↦ (
          let next = reads_behind at at len at_start room b plain in
          let s = starts sum size number text at there r.comes less in
          let low = s.low in
          let one = same_len sum size number text at len s.len b (read_begins sum size number text at at s.len s.reads) in
          rest there len' (record {
            comes = reads_between sum size number (suc (at + len + there)) text at (at + len) there (omega arith) next r.comes (omega (arith, low, one));
            room = r.room;
            inside = r.inside;
            kind = r.kind;
            page = r.page;
            body = r.body;
            is = r.is;
          }))
      | inr last ↦ (
          let le = no_lower sum size number text at there r.comes in
          let same : at ≡ there = omega (arith, le, last) in
          own_at at there len len' (subst (λ n. BeginsAt sum number text n len) same b) (subst (λ n. IsOwnRecord sum size past placed number (start + n) (part text n len)) same own) r)
    ]

    pub own_to_cap : (at len : ℕ) → BeginsAt sum number text at len → IsOwnRecord sum size past placed number (start + at) (part text at len) → IsCap (part text at len) → AreOwnFrom sum size past placed number start text at
    own_to_cap at len b own cap there len' r = elim (cases_lt at there) [
      | inl less ↦ absurd (
          let s = starts sum size number text at there r.comes less in
          let t = s.reads in
          let one : part text at len ≡ part text at s.len = same_record sum size number text at len s.len b.kind b.page b.body t.kind t.page t.body b.is t.is in
          s.plain (kind_is sum (part text at s.len) t.kind t.page number t.body t.is ∙ ap (λ (l : List ℕ). kind_of (get_or l 4 0)) (sym one) ∙ cap))
      | inr last ↦ (
          let le = no_lower sum size number text at there r.comes in
          let same : at ≡ there = omega (arith, le, last) in
          own_at at there len len' (subst (λ n. BeginsAt sum number text n len) same b) (subst (λ n. IsOwnRecord sum size past placed number (start + n) (part text n len)) same own) r)
    ]
