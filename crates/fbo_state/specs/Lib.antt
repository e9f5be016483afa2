pub mod Framebuffers
