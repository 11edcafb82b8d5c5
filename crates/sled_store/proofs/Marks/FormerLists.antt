-- Former lists: each old message is one that the page is made of, but for its length, and so lies where that does. What a table has of a page is one.
use Rattle.std.proofs.Common.{◌≡◌, ◌∙◌, ℕ, pos, Bool, true, false, if◌then◌else◌, List, [], ◌∷◌, filter, map, get_or, nat_lt, ◌&&◌, Option, None, Some, refl, ap, subst}
use Rattle.std.specs.List.{Contains}
use Rattle.std.proofs.lemmas.Simd.{map-map}
use Rattle.sled_codec.specs.History.{Message, History, entries_from, is_link, is_replace, last_beginning, of_page, page_state, table}
use Rattle.sled_codec.specs.PageTables.{IsTable, entry_of, page_with}
use Rattle.sled_codec.specs.Snapshots.{Free, Page, Present, Uninitialized}
use Rattle.sled_store.specs.Begin.{entries_in}
use Rattle.sled_store.specs.Marks.{IsFormerList, IsFormerState, IsPast, info_of, told_of, unsized}
use Rattle.sled_store.specs.SegmentStates.{LiesIn, Machine}
use Rattle.sled_store.specs.declared.segment.slot.CacheInfo.{CacheInfo}
use Rattle.sled_store.proofs.Segments.Elements.{in_map}
use Rattle.sled_store.proofs.Marks.DeactivationSteps.{from_map}

-- a former state is such a list
pub state_is_list : (H : History) (page : ℕ) (old : List CacheInfo) → IsFormerState H page old → IsFormerList H page old
state_is_list H page old former = record {
  cut = former.cut;
  past = former.past;
  is = ap (map unsized) former.is ∙ map-map unsized info_of (table H former.cut page);
}

module _ (H : History) (page : ℕ) (old : List CacheInfo) (former : IsFormerList H page old) where
  -- each of it is what is told of an entry, with another length
  pub from_former : (o : CacheInfo) → Contains old o
      → (e : Message) × Contains (table H former.cut page) e × (record (info_of e) { log_size = o.log_size } ≡ o)
  from_former o there =
      let entries : List Message = table H former.cut page in
      let found = from_map (λ (m : Message). unsized (info_of m)) entries (unsized o) (subst (λ (l : List CacheInfo). Contains l (unsized o)) former.is (in_map unsized old o there)) in
      (found.0, found.1, ap (λ (i : CacheInfo). record i { log_size = o.log_size }) found.2)

  pub former_lies : (size : ℕ) (m : Machine) → ((e : Message) → Contains (table H former.cut page) e → LiesIn size m (info_of e))
      → (o : CacheInfo) → Contains old o → LiesIn size m o
  former_lies size m lie o there =
      let found = from_former o there in
      let lies : LiesIn size m (info_of found.0) = lie found.0 found.1 in
      subst (LiesIn size m) found.2 (record { slot = lies.slot; taken = lies.taken; not_negative = lies.not_negative; lsn = lies.lsn })

-- What is told of a page's entries is told of its messages, but for the length of a Free.
page_told : (ms : List Message) → map unsized (map told_of (entries_in (page_with (page_state ms)))) ≡ map (λ m. unsized (info_of m)) (page_state ms)
unfolding page_state
page_told ms = by (last_beginning ms) where
  links : (ls : List Message) → map unsized (map told_of (map entry_of ls)) ≡ map (λ m. unsized (info_of m)) ls
  links ls = ap (map unsized) (map-map told_of entry_of ls) ∙ map-map unsized info_of ls

  begun : (b : Message) (ls : List Message) (r : Bool)
      → map unsized (map told_of (entries_in (if r then Present (entry_of b) (map entry_of (if r then ls else [])) else Free (pos b.place) b.pointer)))
      ≡ map (λ m. unsized (info_of m)) (b ∷ (if r then ls else []))
  begun b ls true = ap (λ (is : List CacheInfo). unsized (info_of b) ∷ is) (links ls)
  begun b ls false = refl

  by : (o : Option Message) → map unsized (map told_of (entries_in (page_with (entries_from o ms)))) ≡ map (λ m. unsized (info_of m)) (entries_from o ms)
  by None = refl
  by (Some b) = begun b (filter (λ m. is_link m.kind && nat_lt b.place m.place) ms) (is_replace b.kind)

pub table_told : (H : History) (cut page : ℕ) (pages : List Page) → IsTable pages H cut → IsPast H cut
    → IsFormerList H page (map told_of (entries_in (get_or pages page Uninitialized)))
unfolding table
table_told H cut page pages is past = record {
  cut = cut;
  past = past;
  is = ap (λ (p : Page). map unsized (map told_of (entries_in p))) (is.states page) ∙ page_told (of_page H.messages cut page);
}
