use Rattle.std.proofs.Common.{◌≡◌, ◌%◌, ◌<◌, length, get_or, sym, ◌∙◌, ap, arith}
use Rattle.std.specs.Prelude.{None}
use Rattle.std.proofs.lemmas.List.{get_or_default}
use Rattle.vk_types.specs.Touches.{barrier_of}
use Rattle.vk_ready.specs.declared.links.Filed.{Filed}
use Rattle.vk_ready.proofs.Buckets.{filed_barrier, filed_plain, no_barrier}
use Rattle.vk_ready.proofs.links.file.Goals as goal

pub returns-then-is_some-clause-filed : goal.returns-then-is_some-clause-filed
returns-then-is_some-clause-filed c = λ slots has.
    let heads = c.args.links.now.heads.items in let barriers = c.args.links.now.barriers.items in let filed = c.args.links.now.filed.items in let node = c.args.node.now in
    let one = c.objects_of-one.result.0 in let other = c.objects_of-one.result.1 in
    let f : Filed = record { first = c.bucket_of-first.result; first_before = c.index.result.now; first_barrier = c.index-2.result.now; second = c.bucket_of-second.result; second_before = c.index-3.result.now; second_barrier = c.index-4.result.now } in
    let count_is : c.len-count.result ≡ length heads = omega arith in
    let slot_is : c.len-slot.result ≡ length filed = omega arith in
    let same = c.requires.barriers in
    let first_in : f.first < length heads = let below = c.bucket_of-first.ensures.inside in omega (arith, below, count_is) in
    let second_in : f.second < length heads = let below = c.bucket_of-second.ensures.inside in omega (arith, below, count_is) in
    let first_before : f.first_before ≡ get_or heads f.first 0 = c.index.ensures ∙ get_or_default heads f.first c.index.result.now 0 first_in in
    let first_barrier : f.first_barrier ≡ get_or barriers f.first 0 = c.index-2.ensures ∙ get_or_default barriers f.first c.index-2.result.now 0 (omega (arith, same, first_in)) in
    let second_before : f.second_before ≡ get_or heads f.second 0 = c.index-3.ensures ∙ get_or_default heads f.second c.index-3.result.now 0 second_in in
    let second_barrier : f.second_barrier ≡ get_or barriers f.second 0 = c.index-4.ensures ∙ get_or_default barriers f.second c.index-4.result.now 0 (omega (arith, same, second_in)) in
    let first_is : f.first ≡ one % length heads = c.bucket_of-first.ensures.is ∙ ap (λ n. one % n) count_is in
    let second_is : f.second ≡ other % length heads = c.bucket_of-second.ensures.is ∙ ap (λ n. other % n) count_is in
    rw (c.name.ensures.items, c.name-then-is_some.ensures.items, c.push_reserved.ensures.items, slot_is)
    (filed_barrier filed f slots heads barriers has first_in second_in first_before second_before first_barrier second_barrier node one other first_is second_is c.objects_of-one.ensures)

pub returns-else-is_some-clause-filed : goal.returns-else-is_some-clause-filed
returns-else-is_some-clause-filed c = λ slots has.
    let heads = c.args.links.now.heads.items in let barriers = c.args.links.now.barriers.items in let filed = c.args.links.now.filed.items in let node = c.args.node.now in
    let one = c.objects_of-one.result.0 in let other = c.objects_of-one.result.1 in
    let f : Filed = record { first = c.bucket_of-first.result; first_before = c.index.result.now; first_barrier = c.index-2.result.now; second = c.bucket_of-second.result; second_before = c.index-3.result.now; second_barrier = c.index-4.result.now } in
    let count_is : c.len-count.result ≡ length heads = omega arith in
    let slot_is : c.len-slot.result ≡ length filed = omega arith in
    let same = c.requires.barriers in
    let first_in : f.first < length heads = let below = c.bucket_of-first.ensures.inside in omega (arith, below, count_is) in
    let second_in : f.second < length heads = let below = c.bucket_of-second.ensures.inside in omega (arith, below, count_is) in
    let first_before : f.first_before ≡ get_or heads f.first 0 = c.index.ensures ∙ get_or_default heads f.first c.index.result.now 0 first_in in
    let first_barrier : f.first_barrier ≡ get_or barriers f.first 0 = c.index-2.ensures ∙ get_or_default barriers f.first c.index-2.result.now 0 (omega (arith, same, first_in)) in
    let second_before : f.second_before ≡ get_or heads f.second 0 = c.index-3.ensures ∙ get_or_default heads f.second c.index-3.result.now 0 second_in in
    let second_barrier : f.second_barrier ≡ get_or barriers f.second 0 = c.index-4.ensures ∙ get_or_default barriers f.second c.index-4.result.now 0 (omega (arith, same, second_in)) in
    let first_is : f.first ≡ one % length heads = c.bucket_of-first.ensures.is ∙ ap (λ n. one % n) count_is in
    let second_is : f.second ≡ other % length heads = c.bucket_of-second.ensures.is ∙ ap (λ n. other % n) count_is in
    let plain : barrier_of node.command ≡ None = sym c.barrier.ensures ∙ no_barrier c.barrier.result (sym c.is_some.ensures ∙ c.if-is_some.false) in
    rw (c.name.ensures.items, c.push_reserved.ensures.items, slot_is)
    (filed_plain filed f slots heads barriers has first_in second_in first_before second_before first_barrier second_barrier node one other first_is second_is c.objects_of-one.ensures plain)
