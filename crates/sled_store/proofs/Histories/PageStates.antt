-- The messages of one page: the last one that begins it, and which of them its state depends on.
use Rattle.std.proofs.Common.{⊎_elim, ◌≡◌, ◌∙◌, ◌≤◌, Bool, true, false, ◌&&◌, if◌then◌else◌, nat_lt, List, [], ◌∷◌, Option, Some, None, refl, sym, ap, subst, arith}
use Rattle.std.specs.List.{All, Contains, filter}
use Rattle.std.proofs.lemmas.Bool.{false≢true}
use Rattle.std.proofs.lemmas.List.Elements.{All-nil, All-cons, All-contains}
use Rattle.sled_codec.specs.History.{Message, begins_page, is_replace, is_link, later_or, last_beginning, entries_from, page_state}
use Rattle.sled_store.proofs.Histories.Ascending.{in_first, in_rest, in_cases, in_filter, from_filter, all_from_in, Ascends, later_above, filter_ascends, one_at_place, same_messages}

-- where no last beginning is found, no message begins the page
pub none_begins : (ms : List Message) → last_beginning ms ≡ None → All (λ m. begins_page m.kind ≡ false) ms
none_begins [] is = All-nil (λ m. begins_page m.kind ≡ false)
none_begins (m ∷ ms) is = by_cases (last_beginning ms) (begins_page m.kind) refl is (none_begins ms) where
  by_cases : (o : Option Message) (b : Bool) → begins_page m.kind ≡ b → later_or o (if b then Some m else None) ≡ None → (o ≡ None → All (λ x. begins_page x.kind ≡ false) ms) → All (λ x. begins_page x.kind ≡ false) (m ∷ ms)
  by_cases None true of is rest = cc
  by_cases None false of is rest = All-cons (λ x. begins_page x.kind ≡ false) m ms of (rest refl)
  by_cases (Some x) b of is rest = cc

-- the last message that begins the page
pub record IsLast (ms : List Message) (b : Message) : Type 0 where
  pub there : Contains ms b
  pub begins : begins_page b.kind ≡ true
  pub last : (x : Message) → Contains ms x → begins_page x.kind ≡ true → x.place ≤ b.place

pub begins_false : (x : Message) (ms : List Message) → All (λ m. begins_page m.kind ≡ false) ms → Contains ms x → begins_page x.kind ≡ true → ⊥
begins_false x ms none there begins = false≢true (sym (All-contains (λ m. begins_page m.kind ≡ false) ms x none there) ∙ begins)

-- what is found is the last one
pub last_found : (ms : List Message) (b : Message) → Ascends ms → last_beginning ms ≡ Some b → IsLast ms b
last_found [] b order is = cc
last_found (m ∷ ms) b order is = by_cases (last_beginning ms) (begins_page m.kind) refl is (none_begins ms) (λ x. last_found ms x order.1) where
  by_cases : (o : Option Message) (t : Bool) → begins_page m.kind ≡ t → later_or o (if t then Some m else None) ≡ Some b → (o ≡ None → All (λ x. begins_page x.kind ≡ false) ms)
      → ((x : Message) → o ≡ Some x → IsLast ms x) → IsLast (m ∷ ms) b
  by_cases None true of is none rest =
      let same : m ≡ b = cc in
      record {
        there = subst (Contains (m ∷ ms)) same (in_first m ms);
        begins = ap (λ (x : Message). begins_page x.kind) (sym same) ∙ of;
        last = λ x there begins. ⊎_elim (λ at. omega (arith, ap (λ (z : Message). z.place) (sym at ∙ same))) (λ later. absurd (begins_false x ms (none refl) later begins)) (in_cases m x ms there);
      }
  by_cases None false of is none rest = cc
  by_cases (Some y) t of is none rest =
      let same : Some y ≡ Some b = is in
      let is_last : IsLast ms b = rest b same in
      record {
        there = in_rest m b ms is_last.there;
        begins = is_last.begins;
        last = λ x there begins. ⊎_elim (λ at. omega (arith, ap (λ (z : Message). z.place) at, later_above m ms b order is_last.there)) (λ later. is_last.last x later begins) (in_cases m x ms there);
      }

-- the last one is found
pub last_is : (ms : List Message) (b : Message) → Ascends ms → IsLast ms b → last_beginning ms ≡ Some b
last_is ms b order is_last = by_cases (last_beginning ms) (none_begins ms) (λ x. last_found ms x order) where
  by_cases : (o : Option Message) → (o ≡ None → All (λ x. begins_page x.kind ≡ false) ms) → ((x : Message) → o ≡ Some x → IsLast ms x) → o ≡ Some b
  by_cases None none found = absurd (begins_false b ms (none refl) is_last.there is_last.begins)
  by_cases (Some x) none found =
      let other : IsLast ms x = found x refl in
      ap Some (one_at_place ms x b order other.there is_last.there (omega (arith, other.last b is_last.there is_last.begins, is_last.last x other.there other.begins)))

-- where no message begins the page, none is found
none_found : (ms : List Message) → Ascends ms → All (λ x. begins_page x.kind ≡ false) ms → last_beginning ms ≡ None
none_found ms order none = by_cases (last_beginning ms) (λ x. last_found ms x order) where
  by_cases : (o : Option Message) → ((x : Message) → o ≡ Some x → IsLast ms x) → o ≡ None
  by_cases None found = refl
  by_cases (Some x) found = absurd (begins_false x ms none (found x refl).there (found x refl).begins)

-- the entries from a last beginning on
module _ (qs ps : List Message) (fewer : Ascends qs) (more : Ascends ps) (sub : (m : Message) → Contains qs m → Contains ps m) where
  same_links : (b : Message) (t : Bool) → ((m : Message) → Contains (b ∷ (if t then filter (λ m. is_link m.kind && nat_lt b.place m.place) ps else [])) m → Contains qs m)
      → b ∷ (if t then filter (λ m. is_link m.kind && nat_lt b.place m.place) qs else []) ≡ b ∷ (if t then filter (λ m. is_link m.kind && nat_lt b.place m.place) ps else [])
  same_links b true entries =
      let links : Message → Bool = λ m. is_link m.kind && nat_lt b.place m.place in
      ap (λ (ms : List Message). b ∷ ms) (same_messages (filter links qs) (filter links ps) (filter_ascends links qs fewer) (filter_ascends links ps more)
      (λ m at. let found = from_filter links qs m at in in_filter links ps m (sub m found.0) found.1)
      (λ m at. let found = from_filter links ps m at in in_filter links qs m (entries m (in_rest b m (filter links ps) at)) found.1))
  same_links b false entries = refl

  -- Where the first list has only messages of the second, and has all that make the state of the page, both make one state of it.
  pub same_state : ((m : Message) → Contains (page_state ps) m → Contains qs m) → page_state qs ≡ page_state ps
  unfolding page_state
  same_state entries = by_cases (last_beginning ps) (none_begins ps) (λ b. last_found ps b more) entries where
    by_cases : (o : Option Message) → (o ≡ None → All (λ x. begins_page x.kind ≡ false) ps) → ((b : Message) → o ≡ Some b → IsLast ps b) → ((m : Message) → Contains (entries_from o ps) m → Contains qs m)
        → entries_from (last_beginning qs) qs ≡ entries_from o ps
    by_cases None none found entries =
        ap (λ (o : Option Message). entries_from o qs) (none_found qs fewer (all_from_in (λ x. begins_page x.kind ≡ false) qs (λ m at. All-contains (λ x. begins_page x.kind ≡ false) ps m (none refl) (sub m at))))
    by_cases (Some b) none found entries =
        let is_last : IsLast ps b = found b refl in
        let last : IsLast qs b = record {
          there = entries b (in_first b (if is_replace b.kind then filter (λ m. is_link m.kind && nat_lt b.place m.place) ps else []));
          begins = is_last.begins;
          last = λ x there begins. is_last.last x (sub x there) begins;
        } in
        ap (λ (o : Option Message). entries_from o qs) (last_is qs b fewer last) ∙ same_links b (is_replace b.kind) entries
