-- The entries of a page are booked, or one of them can't be.
use Rattle.std.proofs.Common.{◌≡◌, ◌∙◌, ◌++◌, [], ◌∷◌, ℕ, ℤ, List, to_z, of_z, w64, rules, ap, sym, subst, append_assoc, OnOk}
use Rattle.std.specs.List.{All}
use Rattle.std.proofs.lemmas.List.Elements.{All-head, All-tail}
use Rattle.sled_codec.specs.declared.serialization.snapshot.PageState.{PageState}
use Rattle.sled_codec.specs.Snapshots.{Entry, page_of}
use Rattle.sled_store.specs.Begin.{IsPlacedIn, entries_in}
use Rattle.sled_store.specs.SlotTables.{IsSlotTable, AreFit}
use Rattle.sled_store.proofs.Segments.FitLemmas.{fit_base}
use Rattle.sled_store.proofs.segment.slot_table.SlotTable.put_page.Goals as goal

-- the entries behind the base
behind : (es : List Entry) (base : Entry) (frags items : List Entry) → items ≡ frags → es ++ base ∷ [] ++ items ≡ es ++ base ∷ frags
behind es base frags items is = append_assoc es (base ∷ []) items ∙ ap (λ (l : List Entry). es ++ base ∷ l) is

pub returns-in-Ok-clause-ok : goal.returns-in-Ok-clause-ok
returns-in-Ok-clause-ok c = λ es booked.
    let base : Entry = c.in-Present.base in
    let items : List Entry = c.in-Present.frags.items in
    let size : ℕ = c.args.limits.size in
    subst (λ (s : PageState). OnOk c.put_all.result (IsSlotTable size c.put_all.new.self (es ++ entries_in (page_of s)))) (sym c.in-Present.is)
    (subst (λ (l : List Entry). OnOk c.put_all.result (IsSlotTable size c.put_all.new.self l)) (behind es base items c.deref.result.now c.deref.ensures.value)
    (c.put_all.ensures.ok (es ++ base ∷ []) (c.in-Ok.ensures.ok es booked)))

pub returns-in-Ok-clause-corrupt : goal.returns-in-Ok-clause-corrupt
returns-in-Ok-clause-corrupt c = λ es booked corrupt seen placed fit.
    let base : Entry = c.in-Present.base in
    let items : List Entry = c.in-Present.frags.items in
    let size : ℕ = c.args.limits.size in
    let P : Entry → Type 0 = IsPlacedIn size c.args.limits.slots c.args.limits.stable in
    let all : All P (base ∷ items) = subst (λ (s : PageState). All P (entries_in (page_of s))) c.in-Present.is placed in
    let may : AreFit size (es ++ base ∷ items) = subst (λ (s : PageState). AreFit size (es ++ entries_in (page_of s))) c.in-Present.is fit in
    c.put_all.ensures.corrupt (es ++ base ∷ []) (c.in-Ok.ensures.ok es booked) corrupt (subst (All P) (sym c.deref.ensures.value) (All-tail P base items all))
    (subst (AreFit size) (sym (behind es base items c.deref.result.now c.deref.ensures.value)) may)

pub returns-in-Err-clause-corrupt : goal.returns-in-Err-clause-corrupt
returns-in-Err-clause-corrupt c = λ es booked corrupt seen placed fit.
    let base : Entry = c.in-Present.base in
    let items : List Entry = c.in-Present.frags.items in
    let size : ℕ = c.args.limits.size in
    let P : Entry → Type 0 = IsPlacedIn size c.args.limits.slots c.args.limits.stable in
    let all : All P (base ∷ items) = subst (λ (s : PageState). All P (entries_in (page_of s))) c.in-Present.is placed in
    let may : AreFit size (es ++ base ∷ items) = subst (λ (s : PageState). AreFit size (es ++ entries_in (page_of s))) c.in-Present.is fit in
    c.in-Err.ensures.corrupt es booked corrupt (All-head P base items all) (fit_base size es base items may)

pub returns-in-Free-clause-corrupt : goal.returns-in-Free-clause-corrupt
returns-in-Free-clause-corrupt c = λ es booked corrupt seen placed fit.
    let size : ℕ = c.args.limits.size in
    let P : Entry → Type 0 = IsPlacedIn size c.args.limits.slots c.args.limits.stable in
    let one : ℤ → Entry = λ z. (z, c.in-Free.pointer, 32) in
    let is : to_z w64 (of_z w64 c.in-Free.place) ≡ c.in-Free.place = search rules in
    let all : All P (one c.in-Free.place ∷ []) = subst (λ (s : PageState). All P (entries_in (page_of s))) c.in-Free.is placed in
    let may : AreFit size (es ++ one c.in-Free.place ∷ []) = subst (λ (s : PageState). AreFit size (es ++ entries_in (page_of s))) c.in-Free.is fit in
    c.put-in-Free.ensures.corrupt es booked corrupt (subst (λ z. P (one z)) (sym is) (All-head P (one c.in-Free.place) [] all)) (subst (λ z. AreFit size (es ++ one z ∷ [])) (sym is) may)
