-- Of two offsets that a reader comes to it reads from the lower one to the other; and it reads the same in each text that has the same there.
use Rattle.std.proofs.Common.{◌≡◌, ◌≢◌, ◌⊎◌, ◌≤◌, ◌<◌, ◌+◌, ◌-◌, ℕ, zero, suc, List, length, sym, subst, arith, inl, inr}
use Rattle.std.proofs.lemmas.Bool.{cases_lt}
use Rattle.sled_codec.specs.declared.serialization.message.MessageKind.TheVariants.{Cap}
use Rattle.sled_codec.specs.Places.{part}
use Rattle.sled_codec.specs.Record.{IsRecord}
use Rattle.sled_store.specs.Foreign.{IsReached, at_first, behind}
use Rattle.sled_store.specs.Readers.{BeginsAt, ReadsTo, Reads, at_start, reads_past}
use Rattle.sled_store.proofs.Own.ReachedLemmas.{begins, same_len}

module _ (sum : List ℕ → ℕ) (size number : ℕ) where
  -- what it reads begins there
  pub read_begins : (text : List ℕ) (first at len : ℕ) → Reads sum size number text first at len → BeginsAt sum number text at len
  read_begins text first at len r = begins sum size number text at len r.kind r.page r.body r.inside r.is

  pub no_lower : (text : List ℕ) (first at : ℕ) → ReadsTo sum size number text first at → first ≤ at
  no_lower text first at at_start = omega arith
  no_lower text first at (reads_past from len k page body comes room plain fits is) = let le = no_lower text first from comes in omega (arith, le)

  -- A reader that goes on from an offset reads a record there first, which is no Cap.
  pub record Starts (text : List ℕ) (first at : ℕ) : Type 0 where
    pub len : ℕ
    pub reads : Reads sum size number text first first len
    pub plain : reads.kind ≢ Cap
    pub low : first + len ≤ at

  pub starts : (text : List ℕ) (first at : ℕ) → ReadsTo sum size number text first at → first < at → Starts text first at
  starts text first at at_start less = absurd (omega (arith, less))
  starts text first at (reads_past from len k page body comes room plain fits is) less = elim (cases_lt first from) [
    | inl more ↦ (let s = starts text first from comes more in record { len = s.len; reads = s.reads; plain = s.plain; low = (let le = s.low in omega (arith, le)) })
    | inr last ↦ (
        let le = no_lower text first from comes in
        let same : from ≡ first = omega (arith, le, last) in
        record {
          len = len;
          reads = record {
            comes = at_start;
            room = omega (arith, room, same);
            inside = omega (arith, fits, same);
            kind = k;
            page = page;
            body = body;
            is = subst (λ n. IsRecord sum (part text n len) k page number body) same is;
          };
          plain = plain;
          low = omega (arith, same);
        })
  ]

  -- It reads on from there.
  pub reads_on : (text : List ℕ) (first mid at : ℕ) → ReadsTo sum size number text first mid → ReadsTo sum size number text mid at → ReadsTo sum size number text first at
  reads_on text first mid at low at_start = low
  reads_on text first mid at low (reads_past from len k page body comes room plain fits is) = reads_past from len k page body (reads_on text first mid from low comes) room plain fits is

  -- Of two offsets that it comes to, it reads from the lower one to the other.
  pub reads_between : (fuel : ℕ) (text : List ℕ) (first a b : ℕ) → a + b < fuel → ReadsTo sum size number text first a → ReadsTo sum size number text first b → a ≤ b → ReadsTo sum size number text a b
  reads_between zero text first a b less ra rb le = absurd (omega (arith, less))
  reads_between (suc fuel) text first a b less ra at_start le =
      let low = no_lower text first a ra in
      let same : a ≡ b = omega (arith, low, le) in
      subst (λ n. ReadsTo sum size number text a n) same at_start
  reads_between (suc fuel) text first a b less ra (reads_past from len k page body comes room plain fits is) le =
      let there = begins sum size number text from len k page body fits is in
      let some = there.some in
      elim (cases_lt from a) [
        | inl passed ↦ (
            let found = starts text from a (reads_between fuel text first from a (omega (arith, less, some)) comes ra (omega (arith, passed))) passed in
            let low = found.low in
            let same = same_len sum size number text from len found.len there (read_begins text from from found.len found.reads) in
            let end : a ≡ from + len = omega (arith, le, low, same) in
            subst (λ n. ReadsTo sum size number text a n) end at_start)
        | inr before ↦ reads_past from len k page body (reads_between fuel text first a from (omega (arith, less, some)) ra comes (omega (arith, before))) room plain fits is
      ]

  -- A record that it reads ends no higher than an offset that it comes to, or it reads on from that to the record.
  pub reads_apart : (text : List ℕ) (first mid at len : ℕ) → ReadsTo sum size number text first mid → Reads sum size number text first at len → (at + len ≤ mid) ⊎ Reads sum size number text mid at len
  reads_apart text first mid at len to_mid r = elim (cases_lt at mid) [
    | inl lower ↦ (
        let s = starts text at mid (reads_between (suc (at + mid)) text first at mid (omega arith) r.comes to_mid (omega (arith, lower))) lower in
        let low = s.low in
        let same = same_len sum size number text at len s.len (read_begins text first at len r) (read_begins text at at s.len s.reads) in
        inl (omega (arith, low, same)))
    | inr above ↦ inr (record {
      comes = reads_between (suc (mid + at)) text first mid at (omega arith) to_mid r.comes above;
      room = r.room;
      inside = r.inside;
      kind = r.kind;
      page = r.page;
      body = r.body;
      is = r.is;
    })
  ]

  -- Two texts have the same from one offset up to another.
  abbrev pub SameFrom : List ℕ → List ℕ → ℕ → ℕ → Type 0
  SameFrom text other from to = (at len : ℕ) → from ≤ at → at + len ≤ to → part other at len ≡ part text at len

  pub reads_same : (text other : List ℕ) (from to first at : ℕ) → SameFrom text other from to → to ≤ length other → from ≤ first → at ≤ to → ReadsTo sum size number text first at → ReadsTo sum size number other first at
  reads_same text other from to first at same there low high at_start = at_start
  reads_same text other from to first at same there low high (reads_past mid len k page body comes room plain fits is) =
      let up = no_lower text first mid comes in
      reads_past mid len k page body (reads_same text other from to first mid same there low (omega (arith, high)) comes) room plain (omega (arith, high, there))
      (subst (λ (l : List ℕ). IsRecord sum l k page number body) (sym (same mid len (omega (arith, low, up)) high)) is)

  pub read_same : (text other : List ℕ) (from to first at len : ℕ) → SameFrom text other from to → to ≤ length other → from ≤ first → at + len ≤ to → Reads sum size number text first at len → Reads sum size number other first at len
  read_same text other from to first at len same there low high r =
      let up = no_lower text first at r.comes in
      record {
        comes = reads_same text other from to first at same there low (omega (arith, high)) r.comes;
        room = r.room;
        inside = omega (arith, high, there);
        kind = r.kind;
        page = r.page;
        body = r.body;
        is = subst (λ (l : List ℕ). IsRecord sum l r.kind r.page number r.body) (sym (same at len (omega (arith, low, up)) high)) r.is;
      }

  -- One who goes on behind a Cap, too, comes to all of that.
  pub reads_reached : (text : List ℕ) (first at : ℕ) → ReadsTo sum size number text first at → IsReached sum size number text first at
  reads_reached text first at at_start = at_first
  reads_reached text first at (reads_past mid len k page body comes room plain fits is) = behind mid len k page body (reads_reached text first mid comes) fits is

  -- So does a reader of a part of it alone, which may go behind a Cap.
  pub reached_in : (text own : List ℕ) (from to first at : ℕ) → ((i len : ℕ) → from ≤ i → i + len ≤ to → part own (i - from) len ≡ part text i len) → to - from ≤ length own → from ≤ first → at ≤ to
      → ReadsTo sum size number text first at → IsReached sum size number own (first - from) (at - from)
  reached_in text own from to first at same there low high at_start = at_first
  reached_in text own from to first at same there low high (reads_past mid len k page body comes room plain fits is) =
      let up = no_lower text first mid comes in
      let end : mid - from + len ≡ mid + len - from = omega (arith, low, up) in
      subst (λ n. IsReached sum size number own (first - from) n) end
      (behind (mid - from) len k page body (reached_in text own from to first mid same there low (omega (arith, high)) comes) (omega (arith, high, there, low, up))
      (subst (λ (l : List ℕ). IsRecord sum l k page number body) (sym (same mid len (omega (arith, low, up)) high)) is))
