use Rattle.gl_state.proofs.nameless.Unused.new.Goals as goal

pub returns : goal.returns
returns c = λ buffers textures renderbuffers. record { buffers_fit = c.new.ensures _; textures_fit = c.new-2.ensures _; renderbuffers_fit = c.new-3.ensures _ }
