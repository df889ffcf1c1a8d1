pub mod TwoCapturesCalls
