-- Changes of a context that leave what it refers to.
use Rattle.std.proofs.Common.{ℕ, Bool, refl}
use Rattle.gl_calls.specs.declared.reply.GlError.{GlError}
use Rattle.gl_calls.specs.declared.reply.GlError.TheVariants.{NoError}
use Rattle.gl_calls.specs.declared.words.StoreParameter.{StoreParameter}
use Rattle.gl_calls.specs.declared.words.StoreParameter.TheVariants as parameters
use Rattle.gl_model.specs.declared.state.ScissorBox.{ScissorBox}
use Rattle.gl_model.specs.GroupEffect.{with_parameter}
use Rattle.gl_model.specs.Legal.{with_gl_error}
use Rattle.gl_state.proofs.Swept.{KeepsReferences}

pub keeps_with_error : (error : GlError) → KeepsReferences (with_gl_error error)
keeps_with_error error = record { buffers = λ b c. refl; texture = λ c. refl; renderbuffer = λ c. refl; attached = λ a c. refl }

pub keeps_without_error : KeepsReferences (λ c. record c { error = NoError })
keeps_without_error = record { buffers = λ b c. refl; texture = λ c. refl; renderbuffer = λ c. refl; attached = λ a c. refl }

pub keeps_scissor_test : (on : Bool) → KeepsReferences (λ c. record c { scissor_on = on })
keeps_scissor_test on = record { buffers = λ b c. refl; texture = λ c. refl; renderbuffer = λ c. refl; attached = λ a c. refl }

pub keeps_scissor : (box : ScissorBox) → KeepsReferences (λ c. record c { scissor = box })
keeps_scissor box = record { buffers = λ b c. refl; texture = λ c. refl; renderbuffer = λ c. refl; attached = λ a c. refl }

pub keeps_parameter : (parameter : StoreParameter) (n : ℕ) → KeepsReferences (λ c. with_parameter c parameter n)
keeps_parameter parameters.PackAlign n = record { buffers = λ b c. refl; texture = λ c. refl; renderbuffer = λ c. refl; attached = λ a c. refl }
keeps_parameter parameters.PackRow n = record { buffers = λ b c. refl; texture = λ c. refl; renderbuffer = λ c. refl; attached = λ a c. refl }
keeps_parameter parameters.PackSkipRows n = record { buffers = λ b c. refl; texture = λ c. refl; renderbuffer = λ c. refl; attached = λ a c. refl }
keeps_parameter parameters.PackSkipPixels n = record { buffers = λ b c. refl; texture = λ c. refl; renderbuffer = λ c. refl; attached = λ a c. refl }
keeps_parameter parameters.UnpackAlign n = record { buffers = λ b c. refl; texture = λ c. refl; renderbuffer = λ c. refl; attached = λ a c. refl }
keeps_parameter parameters.UnpackRow n = record { buffers = λ b c. refl; texture = λ c. refl; renderbuffer = λ c. refl; attached = λ a c. refl }
keeps_parameter parameters.UnpackSkipRows n = record { buffers = λ b c. refl; texture = λ c. refl; renderbuffer = λ c. refl; attached = λ a c. refl }
keeps_parameter parameters.UnpackSkipPixels n = record { buffers = λ b c. refl; texture = λ c. refl; renderbuffer = λ c. refl; attached = λ a c. refl }
keeps_parameter parameters.Other n = record { buffers = λ b c. refl; texture = λ c. refl; renderbuffer = λ c. refl; attached = λ a c. refl }
