use Rattle.std.proofs.Common.{◌≡◌, ◌∙◌, ap, subst, sym, bytes_eq, Some}
use Rattle.gem_object.specs.texts.Bytes.{Bytes as Text}
use Rattle.st_tree.specs.Trees.{Program}
use Rattle.lru.specs.LruCache.{LruCache, lru_cache, put_entries}
use Rattle.st_machine.specs.Methods.{IsMethodOf, sources, AllAreCode}
use Rattle.st_machine.proofs.Kept.{put_is, all_put}
use Rattle.st_machine.proofs.cache.add_code.Goals as goal

pub returns-clause-all : goal.returns-clause-all
returns-clause-all c =
    let cache = c.args.entries.now in
    let is : IsMethodOf c.args.source.now (Some c.in-Some.code) = rw c.in-Some.is at c.in_ok-code.ensures in
    let same : c.put.new.self ≡ lru_cache (put_entries bytes_eq cache c.args.source.now c.in-Some.code) cache.cap =
    c.in_ok-put.ensures.entries
    ∙ (ap (λ (key : Text). lru_cache (put_entries bytes_eq cache key c.in_ok-kept.kept) cache.cap) c.in_ok-clone.ensures.cases
    ∙ ap (λ (tree : Program). lru_cache (put_entries bytes_eq cache c.args.source.now tree) cache.cap) c.in_ok-kept.ensures) in
    subst (λ (one : LruCache Text Program). AllAreCode one.entries) (sym same)
    (all_put c.args.source.now cache c.requires.cap c.requires.absent c.in-Some.code c.requires.all is)

pub returns-clause-used : goal.returns-clause-used
returns-clause-used c =
    let cache = c.args.entries.now in
    let same : c.put.new.self ≡ lru_cache (put_entries bytes_eq cache c.args.source.now c.in-Some.code) cache.cap =
    c.in_ok-put.ensures.entries
    ∙ (ap (λ (key : Text). lru_cache (put_entries bytes_eq cache key c.in_ok-kept.kept) cache.cap) c.in_ok-clone.ensures.cases
    ∙ ap (λ (tree : Program). lru_cache (put_entries bytes_eq cache c.args.source.now tree) cache.cap) c.in_ok-kept.ensures) in
    ap (λ (one : LruCache Text Program). sources one.entries) same
    ∙ put_is c.args.source.now cache c.requires.cap c.requires.absent c.in-Some.code
