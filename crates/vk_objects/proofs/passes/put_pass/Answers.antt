use Rattle.std.proofs.Common.{◌≡◌, length, sym, ◌∙◌, ap, subst}
use Rattle.std.specs.Prelude.{unwrap_or}
use Rattle.cells.proofs.Refills.{refilled-whole}
use Rattle.vk_types.specs.declared.handles.Kind.TheVariants.{Buffer}
use Rattle.vk_objects.specs.Images.{kind_of_shape, IsPassed}
use Rattle.vk_objects.specs.Objects.{bytes_of, kinds_of}
use Rattle.vk_objects.proofs.passes.put_pass.Goals as goal

pub returns-clause-passed : goal.returns-clause-passed
returns-clause-passed c =
    let old = c.args.objects.now in let id = c.args.image.0 in let load' = c.args.load in let clears = c.args.clears.now in
    let len : length c.pass_over.new.bytes ≡ length c.take-bytes.result = c.pass_over.auto.bytes ∙ ap length c.as_mut_slice.ensures.value in
    let new_is : bytes_of c.put_back.new.self id ≡ c.pass_over.new.bytes = c.put_back.ensures.here ∙ refilled-whole c.take-bytes.result c.pass_over.new.bytes len in
    let old_is : c.as_mut_slice.result.now ≡ bytes_of old id = c.as_mut_slice.ensures.value ∙ c.take-bytes.ensures.bytes in
    let kind_is : kind_of_shape c.shape-shape.result ≡ kinds_of old id = sym (ap (λ k. unwrap_or k (Buffer 0)) c.shape-shape.ensures) in
    subst (λ b. IsPassed (bytes_of old id) b (kinds_of old id) load' clears) (sym new_is)
    (subst (λ k. IsPassed (bytes_of old id) c.pass_over.new.bytes k load' clears) kind_is
    (subst (λ b. IsPassed b c.pass_over.new.bytes (kind_of_shape c.shape-shape.result) load' clears) old_is c.pass_over.ensures))
