-- In a history that a session makes, messages that name one blob are of one page. So a message that is the newest of its page may be marked in place of what
-- that was.
use Rattle.std.proofs.Common.{◌≡◌, ◌∙◌, ◌≤◌, ℤ, List, sym, ap, subst}
use Rattle.std.specs.List.{Contains}
use Rattle.sled_codec.specs.History.{History, Message}
use Rattle.sled_store.specs.Marks.{IsFormerList}
use Rattle.sled_store.specs.Outdated.{NamesBlob, NoneShares}
use Rattle.sled_store.specs.declared.segment.slot.CacheInfo.{CacheInfo}
use Rattle.sled_store.proofs.Histories.Ascending.{apart_ascends, one_at_place}
use Rattle.sled_store.proofs.Marks.FormerLists.{from_former}
use Rattle.sled_store.proofs.Segments.TableEntries.{from_table}
use Rattle.sled_core.proofs.Read.FoundLemmas.{pos_injective}
use Rattle.sled_log.specs.Made.{HasBlobIn, IsMade}

module _ (H : History) (made : IsMade H) where
  -- Two messages that name one blob are of one page.
  pub one_page : (x y : Message) (blob : ℤ) → Contains H.messages x → Contains H.messages y → NamesBlob x blob → NamesBlob y blob → y.page ≡ x.page
  one_page x y blob there_x there_y names_x names_y =
      let has_x = subst (HasBlobIn H x) names_x.1 (made.blobs x there_x) in
      let has_y = subst (HasBlobIn H y) names_y.1 (made.blobs y there_y) in
      let at : has_y.0.place ≡ has_x.0.place = pos_injective has_y.0.place has_x.0.place (sym has_y.3 ∙ has_x.3) in
      let same : has_y.0 ≡ has_x.0 = one_at_place H.messages has_y.0 has_x.0 (apart_ascends H.messages made.orderly.formed.apart) has_y.1 has_x.1 at in
      sym has_y.4 ∙ ap (λ (m : Message). m.page) same ∙ has_x.4

  -- No message needs what a page was, but for those of the page up to its newest one.
  pub none_shares : (G : History) → ((m : Message) → Contains G.messages m → Contains H.messages m) → (x : Message) (old : List CacheInfo)
      → IsFormerList G x.page old
      → ((m : Message) → Contains H.messages m → m.page ≡ x.page → m.place ≤ x.place) → NoneShares H x old
  none_shares G more x old former newest o lid blob among points other e there names =
      let was = from_former G x.page old former o among in
      let from = from_table G former.cut x.page was.0 was.1 in
      let page : e.page ≡ x.page = one_page was.0 e blob (more was.0 from.0) there (lid, ap (λ (i : CacheInfo). i.pointer) was.2 ∙ points) names ∙ from.1 in
      (page, newest e there page)
