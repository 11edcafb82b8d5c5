use Rattle.std.proofs.Common.{◌≡◌, ◌∙◌, ◌+◌, ◌-◌, ◌++◌, List, length, map, replicate, ap, arith, length-append, rules}
use Rattle.std.proofs.lemmas.List.{map-append, length-map}
use Rattle.sled_codec.specs.Snapshots.{Page, Uninitialized, page_of}
use Rattle.sled_log.proofs.PageTable.TableLemmas.{grows_by_one}
use Rattle.sled_log.proofs.snapshot.page_table.grow.Goals as goal

pub loop-pages-preserved : goal.loop-pages-preserved
loop-pages-preserved c =
    let old : List Page = map page_of c.args.pages.now.items in
    let now : List Page = map page_of c.loop-pages.pages.items in
    let items = c.in_ok-push.ensures.items in
    let more = c.loop-pages.invariant.more in
    let old_long : length old ≡ length c.args.pages.now.items = length-map c.args.pages.now.items page_of in
    let now_long : length now ≡ length c.loop-pages.pages.items = length-map c.loop-pages.pages.items page_of in
    let one_longer : length c.push.new.self.items ≡ length c.loop-pages.pages.items + 1 = ap length items ∙ length-append c.loop-pages.pages.items _ in
    let is : now ≡ old ++ replicate (length now - length old) Uninitialized =
    c.loop-pages.invariant.pages ∙ ap (λ n. old ++ replicate n Uninitialized) (let e : length c.loop-pages.pages.items - length c.args.pages.now.items ≡ length now - length old = omega (arith, old_long, now_long) in e) in
    record {
      pages = ap (map page_of) items ∙ map-append page_of c.loop-pages.pages.items _ ∙ grows_by_one old now (omega (arith, old_long, now_long, more)) is
          ∙ ap (λ n. old ++ replicate n Uninitialized) (let e : length now + 1 - length old ≡ length c.push.new.self.items - length c.args.pages.now.items = omega (arith, old_long, now_long, one_longer) in e);
      more = omega (arith, more, one_longer);
      most = search rules;
    }
