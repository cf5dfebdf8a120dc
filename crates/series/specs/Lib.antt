-- The power series of e, sine and cosine; how sine and cosine run up to 2.
pub mod Series
pub mod Rises
